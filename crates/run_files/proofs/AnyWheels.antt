-- A wheel's file gives no cause that a model's file does not give.
use Rattle.std.proofs.Common.{ℕ, inl, inr, List, Option, Result, Ok, Err}
use Rattle.shelf_traits.specs.Shelf.{View}
use Rattle.run_ends.specs.declared.cause.Cause.{Cause}
use Rattle.run_ends.specs.declared.cause.Cause.TheVariants as cause
use Rattle.run_ends.specs.declared.cause.Refusal.TheVariants as refusal
use Rattle.run_ends.specs.declared.cause.Limit.TheVariants as limit
use Rattle.run_ends.specs.Works.{StopsRead}
use Rattle.run_ends.specs.Loads.{Loads}
use Rattle.run_files.specs.Causes.{WheelGives, ModelGives}

by_model : (file : List ℕ → Option (List ℕ)) (name : List ℕ) (e : Cause) → WheelGives file name e → ModelGives file name e
by_model file name (cause.Refused (refusal.Wheel no_wheel)) g = g
by_model file name (cause.Refused (refusal.Table fault)) g = g
by_model file name (cause.Refused (refusal.Csv fault)) g = g
by_model file name (cause.Refused (refusal.Vcd fault)) g = g
by_model file name (cause.Refused (refusal.Image fault)) g = g
by_model file name (cause.Refused (refusal.Audit not_sound)) g = g
by_model file name (cause.Refused (refusal.Stuck gap low high)) g = g
by_model file name (cause.Refused (refusal.Report at)) g = g
by_model file name (cause.Refused (refusal.Certificate at)) g = g
by_model file name (cause.Limit limit.Places) g = absurd g
by_model file name (cause.Limit limit.File) g = g
by_model file name (cause.Limit (limit.States most)) g = g
by_model file name (cause.Limit limit.Edges) g = g
by_model file name cause.Usage g = g
by_model file name cause.ReadFault g = g
by_model file name cause.WriteFault g = g
by_model file name cause.Memory g = g

stops_model : (v : View) (name : List ℕ) (e : Cause) → StopsRead v (WheelGives v.file name) e → StopsRead v (ModelGives v.file name) e
stops_model v name (cause.Refused r) s = λ told. by_model v.file name (cause.Refused r) (s told)
stops_model v name (cause.Limit l) s = λ told. by_model v.file name (cause.Limit l) (s told)
stops_model v name cause.Usage s = s
stops_model v name cause.ReadFault s = s
stops_model v name cause.WriteFault s = s
stops_model v name cause.Memory s = s

-- what is loaded as a wheel is loaded as a model
pub loads_model : {X : Type 0} (t v w : View) (name : List ℕ) (accepts : X → Type 0) (r : Result X Cause) → Loads t v w name (WheelGives t.file name) accepts r → Loads t v w name (ModelGives t.file name) accepts r
loads_model t v w name accepts (Ok x) h = h
loads_model t v w name accepts (Err e) (rose, inl h) = (rose, inl h)
loads_model t v w name accepts (Err e) (rose, inr (read, s)) = (rose, inr (read, stops_model t name e s))

-- A reader finds in the stamps of the files exactly the instants that they were made of.
use Rattle.std.proofs.Common.{◌≡◌, List, refl, sym, ◌∙◌}
use Rattle.std.specs.Prelude.{Option, Some, None}
use Rattle.wheel_types.specs.declared.channel.Keep.{Keep}
use Rattle.wheel_types.specs.declared.channel.Channel.{Channel}
use Rattle.wheel_types.specs.declared.instant.Instant.{Instant}
use Rattle.wheel_types.specs.Verdicts.{IsRising}
use Rattle.capture_core.specs.declared.capture.Stamp.{Stamp}
use Rattle.capture_core.specs.declared.capture.Watch.{Watch}
use Rattle.capture_core.specs.Changes.{keep_on}
use Rattle.capture_core.specs.Stamps.{instants_of}
use Rattle.capture_core.proofs.RisingInstants.{instants-rise}
use Rattle.stimulus_files.specs.Changes.{edges_on, AreStamps}
use Rattle.stimulus_files.specs.Written.{IsWritable, AreWritable}
use Rattle.stimulus_files.proofs.AlongStamps.{edges_read, none_read}
use Rattle.stimulus_files.proofs.SameInstants.{rises, same_instants}

on_channel : (c : Channel) (watch : Watch) (is : List Instant) (stamps : List Stamp) (k : Option Keep) → AreStamps watch is stamps → keep_on c watch ≡ k → IsWritable k (edges_on c is) → edges_on c (instants_of watch stamps) ≡ edges_on c is
on_channel c watch is stamps None a e w = none_read c watch stamps e ∙ sym w
on_channel c watch is stamps (Some keep) a e w = edges_read c watch is stamps keep a e w.0 w.1

pub stamps_read : (watch : Watch) (is : List Instant) (stamps : List Stamp) → IsRising is → AreWritable watch is → AreStamps watch is stamps → instants_of watch stamps ≡ is
stamps_read watch is stamps rise w a =
    same_instants (instants_of watch stamps) is (rises _ (instants-rise watch stamps a.rise)) (rises is rise) (λ c. on_channel c watch is stamps (keep_on c watch) a refl (w c))

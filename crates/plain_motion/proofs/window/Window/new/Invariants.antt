use Rattle.std.proofs.Common.{◌≡◌, take}
use Rattle.plain_motion.specs.Ends.{starts_of}
use Rattle.plain_motion.proofs.Images.{AreImages}
use Rattle.plain_motion.proofs.KeptWindows.{stays_at}
use Rattle.plain_motion.proofs.window.Window.new.Given as goal

abbrev pub invariant-loop-place : goal.invariant-loop-place
invariant-loop-place l = record {
  images : AreImages (λ p v. v ≡ stays_at p) (take l.place-index l.places) l.walks.items;
  starts : starts_of l.walks.items ≡ take l.place-index l.places;
}

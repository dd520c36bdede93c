-- Which crank edges a window has, by the phase of its state.
use Rattle.std.specs.Prelude.{◌≡◌, ℕ, ◌<◌, ◌≤◌, List, IsTrue, is_some}
use Rattle.image_layout.specs.Layout.{state_total}
use Rattle.image_layout.specs.Fields.{phase_at}
use Rattle.image_format.specs.Walk.{Stand}

-- from phase 1 on the window has a crank edge, and in phase 2 one before it
pub record TellsCrank (b : List ℕ) (s : Stand) : Type 0 where
  pub there : s.state < state_total b
  pub low : phase_at b s.state ≤ 2
  pub one : 1 ≤ phase_at b s.state → IsTrue (is_some s.crank)
  pub two : phase_at b s.state ≡ 2 → IsTrue (is_some s.crank_before)

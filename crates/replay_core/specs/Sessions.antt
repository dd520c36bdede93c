-- What a session stands for.
use Rattle.std.specs.Prelude.{◌≡◌, ℕ, List, length, Option, ℤ}
use Rattle.wheel_types.specs.declared.instant.Instant.{Instant}
use Rattle.sync_machine.specs.Machine as machine
use Rattle.sound_walk.specs.Windows.{window_after}
use Rattle.replay_core.specs.declared.session.Session.{Session}
use Rattle.replay_core.specs.Counts.{counts_of}
use Rattle.replay_core.specs.Lines.{last_verdict}

-- the bytes of the image that it walks
abbrev pub image_of : Session → List ℕ
image_of s = s.machine.view.bytes.now

-- how many instants were stepped
abbrev pub stepped_of : Session → ℕ
stepped_of s = s.stepped

-- the time of the last instant
abbrev pub last_of : Session → Option ℤ
last_of s = s.machine.time

-- the session's machine stands for these instants, the last one first, and the session keeps the edges of their window, their number and
-- the last one's verdict
pub record StandsFor (s : Session) (past : List Instant) : Type 0 where
  pub machine : machine.StandsFor s.machine past
  pub passed : s.passed ≡ counts_of (window_after (image_of s) past)
  pub number : s.stepped ≡ length past
  pub said : s.said ≡ last_verdict (image_of s) past

use Rattle.certified_replay.proofs.NotDenied.{not_denied, wheel_files_are_their_own}
use Rattle.certified_replay.proofs.laws.own_certificates_are_not_denied.Goals as goal

pub returns-clause-law : goal.returns-clause-law
returns-clause-law c = not_denied

pub returns-clause-same_file : goal.returns-clause-same_file
returns-clause-same_file c = wheel_files_are_their_own

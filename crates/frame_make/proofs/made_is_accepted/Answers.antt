use Rattle.frame_make.proofs.Acceptance.{strip_decoded, frame_told, raw_plane, short_enough}
use Rattle.frame_make.proofs.made_is_accepted.Goals as goal

pub returns-clause-length : goal.returns-clause-length
returns-clause-length c = short_enough

pub returns-clause-frame : goal.returns-clause-frame
returns-clause-frame c = frame_told

pub returns-clause-decoded : goal.returns-clause-decoded
returns-clause-decoded c = strip_decoded

pub returns-clause-plane : goal.returns-clause-plane
returns-clause-plane c = raw_plane

use Rattle.cut_laws.proofs.Darks.{cuts_shown, end_shown, part_shown, power_shown, unread_shown}
use Rattle.cut_laws.proofs.laws.power_is_shown.Goals as goal

pub returns : goal.returns
returns c = record { cuts = cuts_shown; end = end_shown; powered = power_shown; part = part_shown; unread = unread_shown }

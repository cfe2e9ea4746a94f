use Rattle.std.proofs.Common.{◌≡◌, Some}
use Rattle.nm_measure.specs.CoursesValue.{CoursesValue}
use Rattle.nm_series.proofs.PacketRows.{HasOpenRows}
use Rattle.nm_series.proofs.packets.push_all_under_way.Given as goal

abbrev pub invariant-loop : goal.invariant-loop
invariant-loop l = (c : CoursesValue) → l.initial.measured.courses ≡ Some c → HasOpenRows l.topology l.initial.text.items l.text.items c l.measured.courses

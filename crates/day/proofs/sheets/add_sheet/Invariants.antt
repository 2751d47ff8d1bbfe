use Rattle.std.proofs.Common.{take, vec_items}
use Rattle.day.specs.Sheets.{Adds}
use Rattle.day.proofs.sheets.add_sheet.Given as goal

abbrev pub invariant-loop-h : goal.invariant-loop-h
invariant-loop-h g l = Adds (take l.h-index l.h-items) (vec_items l.initial.lines) (vec_items l.lines)

-- The accounts of a directory, and one more. Assumes nothing.
use Rattle.std.proofs.Common.{List, [], ◌∷◌, ◌++◌, arith}
use Rattle.std.proofs.lemmas.Grind.{common_steps}
use Rattle.std.proofs.lemmas.List.{get_or_append_left, get_or_push, get_or_past, length_push}
use Rattle.parties.specs.declared.entry.Entry.{Entry}
use Rattle.parties.specs.Tables.{no_entry, InNumbers, AllNumbered, OneGroup}
use Rattle.parties.specs.Directories.{Clashes}

module _ (es : List Entry) (e : Entry) where
  pub numbered_push : AllNumbered es → InNumbers e → AllNumbered (es ++ e ∷ [])
  numbered_push all new a = grind (arith, common_steps, all a, get_or_push es e no_entry a, get_or_append_left es (e ∷ []) no_entry a, get_or_past (es ++ e ∷ []) a no_entry, length_push es e)

  pub grouped_push : OneGroup es → (Clashes es e → ⊥) → OneGroup (es ++ e ∷ [])
  grouped_push all alone a b l m h = grind (arith, common_steps, all a b, get_or_push es e no_entry a, get_or_append_left es (e ∷ []) no_entry a, get_or_push es e no_entry b, get_or_append_left es (e ∷ []) no_entry b, length_push es e)

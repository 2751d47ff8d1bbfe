-- From the fields of a line to the line. Assumes nothing.
use Rattle.std.proofs.Common.{◌≡◌, ℕ, ◌+◌, ◌-◌, ◌<◌, ◌≤◌, cond, eqb, List, [], ◌∷◌, ◌++◌, length, get_or, take, drop, ℤ, pos, Some, Ok, Err, ◌≢◌, Option, Result, sym, refl, ap, ◌∙◌, subst, append_assoc, append-nil, arith, length-append}
use Rattle.std.proofs.lemmas.List.{take_at, length_push}
use Rattle.ledger.specs.declared.actions.Action.{Action}
use Rattle.ledger.specs.declared.actions.Action.TheVariants.{Fill, PlaceBuy, PlaceSell, CancelBuy, CancelSell, ExecuteBuy, ExecuteSell, AddCover, TakeCover}
use Rattle.ledger.specs.declared.cells.Instruction.{Instruction}
use Rattle.ledger.specs.declared.faults.Fault.{Fault}
use Rattle.ledger.specs.Actions.{letter}
use Rattle.ledger.specs.Faults.{misfit}
use Rattle.lines.specs.Fields.{Parts}
use Rattle.lines.specs.Lines.{kinds, numbers, LineOf, Good, Begins, Misfits, ReadsAs, Answered}
use Rattle.lines.specs.Reading.{first, Fielded, StuckAt}
use Rattle.lines.proofs.Splits.{cut_first, one_list}
use Rattle.lines.proofs.Stops.{here, behind, not_over, some_fielded}

-- the action of a letter
abbrev acted : ℕ → Option Action
acted c = cond (eqb c 70) (Some Fill) (cond (eqb c 66) (Some PlaceBuy) (cond (eqb c 83) (Some PlaceSell) (cond (eqb c 67) (Some CancelBuy) (cond (eqb c 68) (Some CancelSell) (cond (eqb c 69) (Some ExecuteBuy) (cond (eqb c 71) (Some ExecuteSell) (cond (eqb c 75) (Some AddCover) (Some TakeCover))))))))

-- by computing at each action
acted_letter : (a : Action) → acted (letter a) ≡ Some a
acted_letter Fill = refl
acted_letter PlaceBuy = refl
acted_letter PlaceSell = refl
acted_letter CancelBuy = refl
acted_letter CancelSell = refl
acted_letter ExecuteBuy = refl
acted_letter ExecuteSell = refl
acted_letter AddCover = refl
acted_letter TakeCover = refl

-- no two actions share a letter
same_action : (a b : Action) → letter a ≡ letter b → a ≡ b
same_action a b e = let p = acted_letter a in let q = acted_letter b in let r = ap acted e in cc

-- fields of an instruction's kinds are an instruction's
fields_line : (a : Action) (zs : List ℤ) (t : List ℕ) → Parts (kinds a) zs t → Good (letter a ∷ t)
fields_line a [] t h = absurd h
fields_line a (x ∷ []) t h = absurd h.4
fields_line a (x ∷ y ∷ []) t h = absurd h.4.4
fields_line a (x ∷ y ∷ z ∷ []) t h =
    let p = h.3.1 in
    let q = h.4.3.1 in
    let e : x ∷ y ∷ z ∷ [] ≡ pos h.3.0 ∷ pos h.4.3.0 ∷ z ∷ [] = cc in
    (record { action = a; account = h.3.0; series = h.4.3.0; amount = z }, (t, refl, subst (λ v. Parts (kinds a) v t) e h))
fields_line a (x ∷ y ∷ z ∷ w ∷ zs) t h = absurd h.4.4.4

-- an instruction with the letter has the action
line_fields : (a : Action) (t : List ℕ) → Good (letter a ∷ t) → Fielded (kinds a) t
line_fields a t (i, (rest, e, h)) =
    let l : letter a ≡ letter i.action = cc in
    let r : t ≡ rest = cc in
    (numbers i, subst (λ b. Parts (kinds b) (numbers i) t) (sym (same_action a i.action l)) (subst (Parts (kinds i.action) (numbers i)) (sym r) h))

-- stuck in P is stuck in a language with the same texts
same_texts : (P Q : List ℕ → Type 0) → ((t : List ℕ) → P t → Q t) → ((t : List ℕ) → Q t → P t) → (s : List ℕ) (from column : ℕ) → StuckAt P s from column → StuckAt Q s from column
same_texts P Q to back s from column h = record {
  front = h.front;
  back = h.back;
  split = h.split;
  at = h.at;
  begins = (h.begins.0, to _ h.begins.1);
  blocked = λ u e g. h.blocked u e (back _ g);
}

-- a line whose fields are stuck
stuck_line : (a : Action) {s : List ℕ} {column : ℕ} → StuckAt (Fielded (kinds a)) s 1 column → StuckAt Good (letter a ∷ s) 0 column
stuck_line a {s} {column} h = behind Good (letter a) s 0 column (same_texts (Fielded (kinds a)) (λ t. Good (letter a ∷ t)) (λ t g. fields_line a g.0 t g.1) (line_fields a) s 1 column h)

-- a line that begins with no letter of an action
pub no_letter : (s : List ℕ) → ((a : Action) → Some (letter a) ≢ first s) → StuckAt Good s 0 0
no_letter s h =
    let m = some_fielded (kinds Fill) in
    here Good s 0 (70 ∷ m.0, fields_line Fill m.1.0 m.0 m.1.1) (λ u e g. h g.0.action (sym (ap first g.1.1) ∙ e))

-- one byte more than the start before r begins no good line
further : (line p r : List ℕ) (column : ℕ) → line ≡ p ++ r → column ≡ length p → ((u : List ℕ) → first u ≡ first r → Good (p ++ u) → ⊥) → column < length line → Begins Good (take (column + 1) line) → ⊥
further line p [] column e l h lt g = omega (arith, ap length (e ∙ append-nil p))
further line p (b ∷ r) column e l h lt g =
    let c : line ≡ (p ++ b ∷ []) ++ r = e ∙ sym (append_assoc p (b ∷ []) r) in
    let n : length (p ++ b ∷ []) ≡ column + 1 = omega (arith, length_push p b) in
    let t : take (column + 1) line ≡ p ++ b ∷ [] = ap (take (column + 1)) c ∙ take_at (p ++ b ∷ []) r (column + 1) n in
    h (b ∷ g.0) refl (subst Good (ap (λ s. s ++ g.0) t ∙ append_assoc p (b ∷ []) g.0) g.1)

-- the column of a line that is stuck
misfits : (line : List ℕ) (column : ℕ) → StuckAt Good line 0 column → Misfits line column
misfits line column h =
    let n : length h.front ≡ column = omega (arith, h.at) in
    let t : take column line ≡ h.front = ap (take column) h.split ∙ take_at h.front h.back column n in
    record {
      within = omega (arith, ap length h.split, length-append h.front h.back);
      begins = subst (Begins Good) (sym t) h.begins;
      longest = further line h.front h.back column h.split (sym n) h.blocked;
      bad = λ g. h.blocked h.back refl (subst Good h.split g);
    }

-- a line is the line of one instruction: its letter has one action, and its fields have one list of numbers
one_line : (line : List ℕ) (i j : Instruction) → LineOf line i → LineOf line j → i ≡ j
one_line line i j (rest, d, g) (rest', e, h) =
    let l : letter i.action ≡ letter j.action = cc in
    let r : rest' ≡ rest = cc in
    let a : i.action ≡ j.action = same_action i.action j.action l in
    let n : numbers i ≡ numbers j = one_list (kinds i.action) (numbers i) (numbers j) rest g (subst (λ b. Parts (kinds b) (numbers j) rest) (sym a) (subst (Parts (kinds j.action) (numbers j)) r h)) in
    let p : i.account ≡ j.account = cc in
    let q : i.series ≡ j.series = cc in
    let m : i.amount ≡ j.amount = cc in
    let same : ◌≡◌ {A = Instruction} (record { action = i.action; account = i.account; series = i.series; amount = i.amount }) (record { action = j.action; account = j.account; series = j.series; amount = j.amount }) = cc in
    same

-- so a good line is read as its instruction
whole : (line : List ℕ) (r : Result Instruction Fault) → ReadsAs line r → (i : Instruction) → LineOf line i → r ≡ Ok i
whole line (Ok j) h i g = ap Ok (one_line line j i h g)
whole line (Err f) h i g = absurd (h.2.bad (i, g))

-- by the line alone
answered : (line : List ℕ) (r : Result Instruction Fault) → ReadsAs line r → Answered line r
answered line r h = record { reads = h; whole = whole line r h }

-- a line refused at a column
pub refused : (line : List ℕ) (f : Fault) (column : ℕ) → f ≡ misfit column → StuckAt Good line 0 column → Answered line (Err f)
refused line f column e h = answered line (Err f) (column, e, misfits line column h)

module _ (a : Action) (line : List ℕ) (some : 1 ≤ length line) (is : letter a ≡ get_or line 0 0) where
  -- what is behind the letter
  behind_letter : line ≡ letter a ∷ take (length line - 1) (drop 1 line)
  behind_letter = cut_first (letter a) line some (sym is)

  -- a line whose fields are stuck
  pub refused_behind : (f : Fault) (column : ℕ) → f ≡ misfit column → StuckAt (Fielded (kinds a)) (take (length line - 1) (drop 1 line)) 1 column → Answered line (Err f)
  refused_behind f column e h = refused line f column e (subst (λ s. StuckAt Good s 0 column) (sym behind_letter) (stuck_line a h))

  -- a line with its fields and nothing else
  pub instructed : (i : Instruction) (zs : List ℤ) → i.action ≡ a → numbers i ≡ zs → Parts (kinds a) zs (take (length line - 1) (drop 1 line)) → Answered line (Ok i)
  instructed i zs e n h = answered line (Ok i)
      (take (length line - 1) (drop 1 line), behind_letter ∙ ap (λ b. letter b ∷ take (length line - 1) (drop 1 line)) (sym e), subst (λ b. Parts (kinds b) (numbers i) (take (length line - 1) (drop 1 line))) (sym e) (subst (λ v. Parts (kinds a) v (take (length line - 1) (drop 1 line))) (sym n) h))

-- what is left behind the last field
pub left_over : (s : List ℕ) (from : ℕ) → 1 ≤ length s → StuckAt (Fielded []) s from from
left_over [] from l = absurd (omega arith)
left_over (b ∷ s) from l = not_over b s from

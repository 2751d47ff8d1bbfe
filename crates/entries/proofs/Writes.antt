-- Records after one is put in, taken out or written over. Assumes nothing.
use Rattle.std.specs.Prelude.{◌≡◌, ℕ, ◌+◌, ◌-◌, ◌<◌, List, pos, ◌≢◌, length, slice_set, refl}
use Rattle.std.proofs.Common.{sym, ap, subst, ◌∙◌, ⊎_elim, arith, get_or-set_same, get_or-set_other}
use Rattle.std.proofs.lemmas.Bool.{cases_lt, cases_eq, cases_order}
use Rattle.ledger.specs.declared.books.Holding.{Holding}
use Rattle.entries.specs.Records.{Ordered, blank, nth, place_of, held_in, Live, Gap, Inserted, Removed}
use Rattle.entries.specs.Holds.{Holds, held_cases, held_none}
use Rattle.entries.specs.Orders.{found_at, held_live, held_missing, holds_below, alone, place_parts}

-- xs has a record of y, up to an end
abbrev Among : List Holding → ℕ → Holding → Type 0
Among xs end y = (k : ℕ) × (k < end) × (nth xs k ≡ y)

-- a cell has the same count in two memories that have the same records of it
same_count : (xs : List Holding) {ys : List Holding} {m end : ℕ} → Ordered ys m end → (a s : ℕ)
    → ((k : ℕ) → k < end → Holds (nth xs k) a s → Among ys end (nth xs k))
    → ((k : ℕ) → k < end → Holds (nth ys k) a s → Among xs end (nth ys k))
    → held_in ys end a s ≡ held_in xs end a s
same_count xs {ys} {m} {end} o a s there back =
    ⊎_elim
    (λ f.
    let t = there f.at f.below f.holds in
    found_at o t.0 a s t.1 (subst (λ e. Holds e a s) (sym t.2) f.holds) ∙ ap (λ (e : Holding). e.held) t.2 ∙ sym f.count)
    (λ g.
    held_none ys end a s (λ k l h. let t = back k l h in g.none t.0 t.1 (subst (λ e. Holds e a s) (sym t.2) h)) ∙ sym g.count)
    (held_cases xs end a s)

-- the last record below the end is free, and serves for the new one
module _ {xs ys : List Holding} {n k last end : ℕ} {e : Holding} (o : Ordered xs n end) (i : Inserted xs ys k last e) (gap : Gap xs n (place_of e) k) (room : n < end) (last_is : last ≡ end - 1) (live : Live e) where
  new_at : (j : ℕ) → j ≡ k → nth ys j ≡ e
  new_at j q = ap (nth ys) q ∙ i.new

  pub inserted_ordered : Ordered ys (n + 1) end
  inserted_ordered = record {
    fits = omega arith;
    rises = λ h j l m. grind (arith, i.before h, i.before j, i.onward h, i.onward j, new_at h, new_at j, gap.within, gap.before h, gap.onward (j - 1), o.rises h j, o.rises h (j - 1), o.rises (h - 1) (j - 1));
    known = λ j l. grind (arith, i.before j, i.onward j, new_at j, gap.within, o.known j, o.known (j - 1));
    free = λ j g l. rw (i.onward j (omega (arith, gap.within)) (omega arith)) (o.free (j - 1) (omega arith) (omega arith));
  }

  pub inserted_here : held_in ys end e.account e.series ≡ e.held
  inserted_here =
      found_at inserted_ordered k _ _ (omega (arith, gap.within)) (rw i.new (record { held = live.2; account = refl; series = refl })) ∙ ap (λ (y : Holding). y.held) i.new

  pub inserted_elsewhere : (a s : ℕ) → (a ≡ e.account → s ≢ e.series) → held_in ys end a s ≡ held_in xs end a s
  inserted_elsewhere a s ne =
      let within = gap.within in
      same_count xs inserted_ordered a s
      (λ j l h.
      let m = holds_below o j a s l h in
      ⊎_elim (λ u. (j, l, i.before j u)) (λ u. (j + 1, omega arith, grind (arith, i.onward (j + 1)))) (cases_lt j k))
      (λ j l h.
      let m = holds_below inserted_ordered j a s l h in
      ⊎_elim
      (λ q. absurd (let f = rw (new_at j q) at h in ne (sym f.account) (sym f.series)))
      (⊎_elim (λ u. (j, l, sym (i.before j u))) (λ u. (j - 1, omega arith, sym (i.onward j u (omega arith)))))
      (cases_order j k))

module _ {xs ys : List Holding} {n k last end : ℕ} (o : Ordered xs n end) (i : Removed xs ys k last) (l : k < n) (last_is : last ≡ end - 1) where
  pub removed_ordered : Ordered ys (n - 1) end
  removed_ordered = record {
    fits = omega (arith, o.fits);
    rises = λ h j less m. grind (arith, o.fits, i.before h, i.before j, i.onward h, i.onward j, o.rises h j, o.rises h (j + 1), o.rises (h + 1) (j + 1));
    known = λ j m. grind (arith, o.fits, i.before j, i.onward j, o.known j, o.known (j + 1));
    free = λ j from to. ⊎_elim
        (λ m. rw (i.onward j (omega arith) m) (o.free (j + 1) (omega arith) (omega arith)))
        (λ g. let at : j ≡ last = omega arith in rw (at, i.free) refl)
        (cases_lt j last);
  }

  -- a record after the removal is one from before it
  removed_back : (j : ℕ) → j < n - 1 → (b : ℕ) × (b < n) × (nth xs b ≡ nth ys j) × (b ≢ k)
  removed_back j m =
      ⊎_elim
      (λ u. (j, omega arith, sym (i.before j u), λ q. omega arith))
      (λ u. (j + 1, omega arith, sym (i.onward j u (omega (arith, o.fits))), λ q. omega arith))
      (cases_lt j k)

  pub removed_here : held_in ys end (nth xs k).account (nth xs k).series ≡ pos 0
  removed_here =
      held_missing removed_ordered _ _ (λ j m e.
      let t = removed_back j m in
      t.3 (alone o t.0 k t.1 l (ap place_of t.2 ∙ e)))

  pub removed_elsewhere : (a s : ℕ) → (a ≡ (nth xs k).account → s ≡ (nth xs k).series → ⊥) → held_in ys end a s ≡ held_in xs end a s
  removed_elsewhere a s ne =
      same_count xs removed_ordered a s
      (λ j to h.
      let m = holds_below o j a s to h in
      ⊎_elim
      (λ q. absurd (let f = rw q at h in ne (sym f.account) (sym f.series)))
      (⊎_elim (λ u. (j, to, i.before j u)) (λ u. (j - 1, omega arith, grind (arith, o.fits, i.onward (j - 1)))))
      (cases_order j k))
      (λ j to h. let t = removed_back j (holds_below removed_ordered j a s to h) in (t.0, omega (arith, t.1, o.fits), t.2))

-- the record at k is now e
pub record Replaced (xs ys : List Holding) (k : ℕ) (e : Holding) : Type 0 where
  pub here : nth ys k ≡ e
  pub elsewhere : (j : ℕ) → (j ≢ k) → nth ys j ≡ nth xs j

pub replaced_set : (xs : List Holding) (k : ℕ) (e : Holding) → k < length xs → Replaced xs (slice_set xs k e) k e
replaced_set xs k e l = record { here = get_or-set_same xs k e blank l; elsewhere = λ j ne. get_or-set_other xs k j e blank ne }

module _ {xs ys : List Holding} {n k end : ℕ} {e : Holding} (o : Ordered xs n end) (i : Replaced xs ys k e) (l : k < n) (at : place_of (nth xs k) ≡ place_of e) (live : Live e) where
  here_at : (j : ℕ) → j ≡ k → nth ys j ≡ e
  here_at j q = ap (nth ys) q ∙ i.here

  pub replaced_ordered : Ordered ys n end
  replaced_ordered = record {
    fits = o.fits;
    rises = λ h j less below. grind (arith, i.elsewhere h, i.elsewhere j, here_at h, here_at j, at, o.rises h j);
    known = λ j below. grind (arith, i.elsewhere j, here_at j, o.known j);
    free = λ j from to. rw (i.elsewhere j (λ q. omega arith)) (o.free j from to);
  }

  pub replaced_here : held_in ys end e.account e.series ≡ e.held
  replaced_here =
      held_live replaced_ordered k _ _ live.1 l (ap place_of i.here) ∙ ap (λ (y : Holding). y.held) i.here

  pub replaced_elsewhere : (a s : ℕ) → (a ≡ e.account → s ≢ e.series) → held_in ys end a s ≡ held_in xs end a s
  replaced_elsewhere a s ne =
      same_count xs replaced_ordered a s
      (λ j to h. ⊎_elim
      (λ q.
      let f = rw q at h in
      let p = place_parts (nth xs k).account (nth xs k).series e.account e.series (o.known k l).1 live.1 at in
      absurd (ne (sym f.account ∙ p.0) (sym f.series ∙ p.1)))
      (λ q. (j, to, i.elsewhere j q))
      (cases_eq j k))
      (λ j to h. ⊎_elim
      (λ q. absurd (let f = rw (here_at j q) at h in ne (sym f.account) (sym f.series)))
      (λ q. (j, to, sym (i.elsewhere j q)))
      (cases_eq j k))

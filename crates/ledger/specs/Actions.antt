-- The nine actions: their letters, the amounts that they take, and what they move. Assumes nothing.
use Rattle.std.specs.Prelude.{ℕ, Bool, true, false, cond, ◌&&◌, ◌||◌, ℤ, pos, negsuc, neg_ℤ, ◌≤ℤ◌, Result, int_le, int_lt}
use Rattle.ledger.specs.declared.actions.Action.{Action}
use Rattle.ledger.specs.declared.actions.Action.TheVariants.{Fill, PlaceBuy, PlaceSell, CancelBuy, CancelSell, ExecuteBuy, ExecuteSell, AddCover, TakeCover}
use Rattle.ledger.specs.declared.faults.Fault.{Fault}
use Rattle.ledger.specs.Faults.{Numbered}

-- the letter of an action, by its code: F B S C D E G K U
abbrev pub letter : Action → ℕ
letter Fill = 70
letter PlaceBuy = 66
letter PlaceSell = 83
letter CancelBuy = 67
letter CancelSell = 68
letter ExecuteBuy = 69
letter ExecuteSell = 71
letter AddCover = 75
letter TakeCover = 85

-- the action of a letter; a letter of none is unknown
abbrev pub Lettered : ℕ → Result Action Fault → Type 0
Lettered = Numbered letter

abbrev pub is_fill : Action → Bool
is_fill Fill = true
is_fill PlaceBuy = false
is_fill PlaceSell = false
is_fill CancelBuy = false
is_fill CancelSell = false
is_fill ExecuteBuy = false
is_fill ExecuteSell = false
is_fill AddCover = false
is_fill TakeCover = false

-- counts and cover stay this near to 0
abbrev pub reach : ℤ
reach = pos 1000000000

abbrev pub reach_below : ℤ
reach_below = negsuc 999999999

abbrev pub Within : ℤ → Type 0
Within z = (reach_below ≤ℤ z) × (z ≤ℤ reach)

abbrev pub within : ℤ → Bool
within z = int_le reach_below z && int_le z reach

abbrev pub nonzero : ℤ → Bool
nonzero z = int_lt z (pos 0) || int_lt (pos 0) z

-- the amounts that an action takes: a fill any in reach but 0, the others from 1
abbrev pub proper : Action → ℤ → Bool
proper a n = cond (is_fill a) (within n && nonzero n) (int_le (pos 1) n && int_le n reach)

-- by how much an action of the amount n moves the count held, the resting buys, the resting sells and the cover
pub record Step : Type 0 where
  pub held : ℤ
  pub buys : ℤ
  pub sells : ℤ
  pub cover : ℤ

abbrev steps : ℤ → ℤ → ℤ → ℤ → Step
steps h b s k = record { held = h; buys = b; sells = s; cover = k }

abbrev pub step : Action → ℤ → Step
step Fill n = steps n (pos 0) (pos 0) (pos 0)
step PlaceBuy n = steps (pos 0) n (pos 0) (pos 0)
step PlaceSell n = steps (pos 0) (pos 0) n (pos 0)
step CancelBuy n = steps (pos 0) (neg_ℤ n) (pos 0) (pos 0)
step CancelSell n = steps (pos 0) (pos 0) (neg_ℤ n) (pos 0)
step ExecuteBuy n = steps n (neg_ℤ n) (pos 0) (pos 0)
step ExecuteSell n = steps (neg_ℤ n) (pos 0) (neg_ℤ n) (pos 0)
step AddCover n = steps (pos 0) (pos 0) (pos 0) n
step TakeCover n = steps (pos 0) (pos 0) (pos 0) (neg_ℤ n)

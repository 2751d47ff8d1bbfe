-- What the cover layer means as a whole, and what an instruction keeps of it. Assumes nothing.
use Rattle.ledger.specs.Meanings.{Meaning}
use Rattle.ledger.specs.declared.ledgers.Ledger.{Ghosts}
use Rattle.cover.specs.declared.CoverLayer.{CoverLayer}
use Rattle.cover.specs.Covering.{cover_meaning}

-- the layer by its table, above what the ledger below means
abbrev pub layer_meaning : {X : Type 0} {G : Ghosts X} → (X → Meaning) → CoverLayer X G → Meaning
layer_meaning meaning x = cover_meaning (meaning x.below) x.cover

-- what the ledger below keeps
abbrev pub LayerKeeps : {X : Type 0} {G : Ghosts X} → (X → X → Type 0) → CoverLayer X G → CoverLayer X G → Type 0
LayerKeeps keeps x y = keeps x.below y.below

-- Contents that pack a value.
use Rattle.std.specs.Prelude.{ℕ, List}
use Rattle.frozen_model.specs.Values.{Value}
use Rattle.frozen_model.specs.Layouts.{Layout}
use Rattle.frozen_model.specs.Packing.{Packs}
use Rattle.frozen_model.specs.Holding.{Holds}
use Rattle.frozen_laws.specs.Laws.{IsContent}

-- the bytes are the packing of some value that the layout holds
abbrev pub PacksValue : Layout → List ℕ → Type 0
PacksValue l bs = (v : Value) × Holds l v × Packs l v bs

-- the same of a value within the limit of cells
abbrev pub HoldsValue : Layout → List ℕ → Type 0
HoldsValue l bs = (v : Value) × IsContent l v bs

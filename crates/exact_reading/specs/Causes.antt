-- Why a list is no text of a grammar: it ends too early, an item cannot stand there, or more follows a text.
use Rattle.std.specs.Prelude.{◌≡◌, ℕ, ◌-◌, List, ◌∷◌, ◌++◌, length, Result, Ok, Err}
use Rattle.exact_reading.specs.declared.stop.Stop.{Stop}
use Rattle.exact_reading.specs.declared.stop.Stop.TheVariants.{Ended, Refused}

-- the items are a proper front of a text
abbrev pub IsTruncated : {Item A : Type 0} → (A → List Item → Type 0) → List Item → Type 0
IsTruncated {Item} {A} S items = (x : A) × (c : Item) × (more : List Item) × S x (items ++ c ∷ more)

-- The first p items are a proper front of a text. With the next one they are neither a text nor a front of one.
pub record IsMalformed {Item A : Type 0} (S : A → List Item → Type 0) (items : List Item) (p : ℕ) : Type 0 where
  pub front : List Item
  pub item : Item
  pub after : List Item
  pub parts : items ≡ front ++ item ∷ after
  pub place : length front ≡ p
  pub goes_on : IsTruncated S front
  pub refused : (x : A) (more : List Item) → S x (front ++ item ∷ more) → ⊥

-- the first p items are a text, and more items follow
pub record IsTrailing {Item A : Type 0} (S : A → List Item → Type 0) (items : List Item) (p : ℕ) : Type 0 where
  pub value : A
  pub front : List Item
  pub item : Item
  pub after : List Item
  pub parts : items ≡ front ++ item ∷ after
  pub place : length front ≡ p
  pub spelled : S value front

-- the cause of a reader's answer: a text at the front, or why there is none
abbrev pub IsCaused : {Item A : Type 0} → (A → List Item → Type 0) → List Item → Result (A × List Item) Stop → Type 0
IsCaused {Item} S items (Ok p) = (t : List Item) × S p.0 t × (items ≡ t ++ p.1)
IsCaused S items (Err Ended) = IsTruncated S items
IsCaused S items (Err (Refused left)) = IsMalformed S items (length items - left)

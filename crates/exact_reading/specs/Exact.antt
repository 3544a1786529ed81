-- A grammar is a relation of values and texts, lists of items. What it is that a reader is exact for a grammar, and grammars made of others.
use Rattle.std.specs.Prelude.{◌≡◌, ℕ, suc, ◌<◌, List, [], ◌∷◌, ◌++◌, length, Option, Some, Ok, Err}
use Rattle.std.specs.List.{AllByRecursion}
use Rattle.exact_reading.specs.declared.stop.Stop.{Stop}
use Rattle.exact_reading.specs.declared.stop.Stop.TheVariants.{Ended, Refused}
use Rattle.exact_reading.specs.Reading.{Read}

-- The items before the item go on to a text, and with it they do not. So many items are left from it on.
pub record IsRefusedAt {Item A : Type 0} (S : A → List Item → Type 0) (items : List Item) (left : ℕ) : Type 0 where
  pub front : List Item
  pub item : Item
  pub after : List Item
  pub parts : items ≡ front ++ item ∷ after
  pub left_is : left ≡ suc (length after)
  pub goes_on : (x : A) × (more : List Item) × S x (front ++ more)
  pub proper : (x : A) → S x front → ⊥
  pub refused : (x : A) (more : List Item) → S x (front ++ item ∷ more) → ⊥

-- On lists of fewer than n items, all of them admitted, the reader gives what the grammar says, and stops where it says.
pub record Exact {Item A : Type 0} (Admitted : Item → Type 0) (n : ℕ) (S : A → List Item → Type 0) (read : Read Item A Stop) : Type 0 where
  -- texts have admitted items
  pub admitted : (x : A) (t : List Item) → S x t → length t < n → AllByRecursion Admitted t
  -- what is read has its text at the front
  pub sound : (items : List Item) (x : A) (rest : List Item) → AllByRecursion Admitted items → length items < n → read items ≡ Ok (x, rest) → (t : List Item) × S x t × (items ≡ t ++ rest)
  -- each text is read, whatever follows it
  pub complete : (x : A) (t rest : List Item) → S x t → length (t ++ rest) < n → read (t ++ rest) ≡ Ok (x, rest)
  -- where the items end too early, they go on to a text
  pub ends : (items : List Item) → AllByRecursion Admitted items → length items < n → read items ≡ Err Ended → (x : A) × (more : List Item) × S x (items ++ more)
  -- where an item is refused, no text goes that way
  pub refuses : (items : List Item) (left : ℕ) → AllByRecursion Admitted items → length items < n → read items ≡ Err (Refused left) → IsRefusedAt S items left

-- ---- grammars made of others

-- one item, and what it means
abbrev pub OneItem : {Item A : Type 0} → (Item → Type 0) → (Item → Option A) → A → List Item → Type 0
OneItem {Item} Admitted f x t = (c : Item) × (Admitted c) × (f c ≡ Some x) × (t ≡ c ∷ [])

-- no item, and one value
abbrev pub Pure : {Item A : Type 0} → A → A → List Item → Type 0
Pure x y t = (y ≡ x) × (t ≡ [])

-- a text of the first, and then one of the second, which may depend on the first's value
abbrev pub Then : {Item A B : Type 0} → (A → List Item → Type 0) → (A → B → List Item → Type 0) → B → List Item → Type 0
Then {Item} {A} First Second y items = (x : A) × (t : List Item) × (u : List Item) × First x t × Second x y u × (items ≡ t ++ u)

-- the second of two: exact, and with a text at all
pub record Follows {Item B : Type 0} (Admitted : Item → Type 0) (n : ℕ) (S : B → List Item → Type 0) (read : Read Item B Stop) : Type 0 where
  pub exact : Exact Admitted n S read
  pub some : (y : B) × (u : List Item) × S y u

-- one grammar in two wordings
pub record Same {Item A : Type 0} (S T : A → List Item → Type 0) : Type 0 where
  pub to : (x : A) (t : List Item) → S x t → T x t
  pub from : (x : A) (t : List Item) → T x t → S x t

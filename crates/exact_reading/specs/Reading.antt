-- Readers on lists: each gives a value and the items after it, or why it stops. What it is that a function of the code is a reader.
use Rattle.std.specs.Prelude.{◌≡◌, ℕ, suc, List, [], ◌∷◌, length, take, drop, nat_lt, if◌then◌else◌, Option, Some, None, Result, Ok, Err}
use Rattle.exact_reading.specs.declared.stop.Stop.{Stop}
use Rattle.exact_reading.specs.declared.stop.Stop.TheVariants.{Ended, Refused}
use Rattle.exact_reading.specs.declared.stop.ReadError.{ReadError}
use Rattle.exact_reading.specs.declared.stop.ReadError.TheVariants as errors

-- a reader of items that gives an A, or an E where it stops
abbrev pub Read : Type 0 → Type 0 → Type 0 → Type 0
Read Item A E = List Item → Result (A × List Item) E

infixl 10 ◌>>=◌
abbrev pub ◌>>=◌ : {A B E : Type 0} → Result A E → (A → Result B E) → Result B E
(Ok x) >>= f = f x
(Err e) >>= f = Err e

-- one reader, and then another, which may depend on what the first gave
abbrev pub and_then : {Item A B E : Type 0} → Read Item A E → (A → Read Item B E) → Read Item B E
and_then first second items = first items >>= λ p. second p.0 p.1

-- no item is read
abbrev pub pure : {Item A E : Type 0} → A → Read Item A E
pure x rest = Ok (x, rest)

-- an item is taken if it has a meaning, else the reader stops at it
abbrev pub meaning : {Item A : Type 0} → Option A → List Item → Result (A × List Item) Stop
meaning (Some x) rest = Ok (x, rest)
meaning None rest = Err (Refused (suc (length rest)))

abbrev pub one : {Item A : Type 0} → (Item → Option A) → Read Item A Stop
one f [] = Err Ended
one f (item ∷ rest) = meaning (f item) rest

-- so many items
unfoldable pub taken : {Item : Type 0} → ℕ → Read Item (List Item) Stop
taken n items = if nat_lt (length items) n then Err Ended else Ok (take n items, drop n items)

-- ---- what a reader gives, seen in part

-- its value seen by a function
abbrev pub seen : {Item A B E : Type 0} → (A → B) → Result (A × List Item) E → Result (B × List Item) E
seen f (Ok p) = Ok (f p.0, p.1)
seen f (Err e) = Err e

-- the items after it
abbrev pub left : {Item A E : Type 0} → Result (A × List Item) E → Result (List Item) E
left (Ok p) = Ok p.1
left (Err e) = Err e

-- ---- a function of the code against a reader

-- What a function that takes no memory returned, seen by view, is what the reader gives.
abbrev pub Meets : {X Y E : Type 0} → (X → Y) → Result X E → Result Y E → Type 0
Meets view (Ok x) read = read ≡ Ok (view x)
Meets view (Err e) read = read ≡ Err e

-- The error is the reader's, unless memory ran out.
abbrev pub Fails : {Y E : Type 0} → ReadError E → Result Y E → Type 0
Fails errors.NoMemory read = Unit {0}
Fails (errors.Stop stop) read = read ≡ Err stop

-- What a function returned, seen by view, is what the reader gives, unless memory ran out.
abbrev pub Gives : {X Y E : Type 0} → (X → Y) → Result X (ReadError E) → Result Y E → Type 0
Gives view (Ok x) read = read ≡ Ok (view x)
Gives view (Err e) read = Fails e read

-- Fields by rising id.
use Rattle.std.proofs.Common.{◌≡◌, ◌≢◌, Bool, true, false, List, [], ◌∷◌, refl, ap, ◌∙◌, arith}
use Rattle.std.specs.Prelude.{ℤ, int_lt, if◌then◌else◌}
use Rattle.std.proofs.lemmas.Int.{ints}
use Rattle.idl_profile.specs.Meaning as m
use Rattle.idl_profile.specs.Text.{insert, by_id}
use Rattle.idl_profile.proofs.Each.{Each, each-map, Distinct}

abbrev pub Below : m.MeantField → m.MeantField → Type 0
Below f g = int_lt f.id g.id ≡ true

below-below : (x y z : ℤ) → int_lt x y ≡ true → int_lt y z ≡ true → int_lt x z ≡ true
below-below x y z g h = grind (arith, ints)

below-not : (x y : ℤ) → int_lt x y ≡ true → int_lt y x ≡ false
below-not x y e = grind (arith, ints)

not_below : (x y : ℤ) → x ≢ y → int_lt y x ≡ false → int_lt x y ≡ true
not_below x y ne e = grind (arith, ints)

-- ---- a property of each, of every pair

each-insert : (P : m.MeantField → Type 0) (f : m.MeantField) (gs : List m.MeantField) → P f → Each P gs → Each P (insert f gs)
each-insert P f [] p h = (p, tt)
each-insert P f (g ∷ gs) p h = by_test (λ k. each-insert P f gs p k) (int_lt g.id f.id) refl
  where
    by_test : (Each P gs → Each P (insert f gs)) → (b : Bool) → int_lt g.id f.id ≡ b → Each P (if b then g ∷ insert f gs else f ∷ g ∷ gs)
    by_test ih true e = (h.0, ih h.1)
    by_test ih false e = (p, h)

pub each-by_id : (P : m.MeantField → Type 0) (fs : List m.MeantField) → Each P fs → Each P (by_id fs)
each-by_id P [] h = tt
each-by_id P (f ∷ fs) h = each-insert P f (by_id fs) h.0 (each-by_id P fs h.1)

distinct-insert : (R : m.MeantField → m.MeantField → Type 0) → ((f g : m.MeantField) → R f g → R g f) → (f : m.MeantField) (gs : List m.MeantField) → Each (R f) gs → Distinct R gs → Distinct R (insert f gs)
distinct-insert R s f [] e d = (tt, tt)
distinct-insert R s f (g ∷ gs) e d = by_test (distinct-insert R s f gs e.1 d.1) (int_lt g.id f.id)
  where
    by_test : Distinct R (insert f gs) → (b : Bool) → Distinct R (if b then g ∷ insert f gs else f ∷ g ∷ gs)
    by_test ih true = (each-insert (R g) f gs (s f g e.0) d.0, ih)
    by_test ih false = (e, d)

pub distinct-by_id : (R : m.MeantField → m.MeantField → Type 0) → ((f g : m.MeantField) → R f g → R g f) → (fs : List m.MeantField) → Distinct R fs → Distinct R (by_id fs)
distinct-by_id R s [] d = tt
distinct-by_id R s (f ∷ fs) d = distinct-insert R s f (by_id fs) (each-by_id (R f) fs d.0) (distinct-by_id R s fs d.1)

-- ---- rising ids

rising-insert : (f : m.MeantField) (gs : List m.MeantField) → Each (λ g. f.id ≢ g.id) gs → Distinct Below gs → Distinct Below (insert f gs)
rising-insert f [] e d = (tt, tt)
rising-insert f (g ∷ gs) e d = by_test (rising-insert f gs e.1 d.1) (int_lt g.id f.id) refl
  where
    by_test : Distinct Below (insert f gs) → (b : Bool) → int_lt g.id f.id ≡ b → Distinct Below (if b then g ∷ insert f gs else f ∷ g ∷ gs)
    by_test ih true t = (each-insert (Below g) f gs t d.0, ih)
    by_test ih false t = let below : Below f g = not_below f.id g.id e.0 t in ((below, each-map (Below g) (Below f) gs (λ h k. below-below f.id g.id h.id below k) d.0), d)

pub rising-by_id : (fs : List m.MeantField) → Distinct (λ f g. f.id ≢ g.id) fs → Distinct Below (by_id fs)
rising-by_id [] d = tt
rising-by_id (f ∷ fs) d = rising-insert f (by_id fs) (each-by_id (λ g. f.id ≢ g.id) fs d.0) (rising-by_id fs d.1)

insert-first : (f : m.MeantField) (gs : List m.MeantField) → Each (Below f) gs → insert f gs ≡ f ∷ gs
insert-first f [] h = refl
insert-first f (g ∷ gs) h = rw (below-not f.id g.id h.0) refl

-- fields by rising id stay where they are
pub by_id-rising : (fs : List m.MeantField) → Distinct Below fs → by_id fs ≡ fs
by_id-rising [] d = refl
by_id-rising (f ∷ fs) d = ap (insert f) (by_id-rising fs d.1) ∙ insert-first f fs d.0

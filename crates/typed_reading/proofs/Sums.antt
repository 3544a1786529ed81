-- Counts and their sums.
use Rattle.std.proofs.Common.{◌≡◌, ℕ, zero, suc, ◌+◌, ◌≤◌, List, [], ◌∷◌, drop, length, Bool, true, cond, Some, refl, sym, ap, ◌∙◌, arith}
use Rattle.std.specs.Prelude.{ℤ, slice_get}
use Rattle.idl_profile.specs.Types.{DefField}
use Rattle.typed_reading.specs.Faults.{is_among}
use Rattle.typed_reading.specs.Marks.{HaveStood}
use Rattle.typed_reading.proofs.FieldLaws.{drop_get, drop_all}
use Rattle.typed_tree.specs.Sizes.{capped}
use Rattle.typed_reading.specs.declared.counts.Checked.{Checked}
use Rattle.typed_reading.specs.Counts.{count_of, nothing, together, raised, grown, default_count, defaults_beside}

pub count_is : (a b c x y z : ℕ) → a ≡ x → b ≡ y → c ≡ z → count_of a b c ≡ count_of x y z
count_is a b c x y z e f g = ap (λ (n : ℕ). count_of n b c) e ∙ ap (λ (n : ℕ). count_of x n c) f ∙ ap (count_of x y) g

-- in numbers of 64 bits
pub raised_is : (n more : ℕ) → n ≤ 18446744073709551615 → raised n more ≡ capped (n + more)
raised_is n more le = omega (arith, le)

raised_none : (n : ℕ) → raised n 0 ≡ n
raised_none n = omega arith

raised_more : (n a b : ℕ) → raised n (a + b) ≡ raised (raised n a) b
raised_more n a b = omega arith

-- a number that was capped before
pub raised_capped : (n more : ℕ) → raised n (capped more) ≡ raised n more
raised_capped n more = omega arith

pub raised_all : (n : ℕ) → raised 0 n ≡ capped n
raised_all n = omega arith

pub grown_none : (s : Checked) → grown s nothing ≡ s
grown_none s = count_is _ _ _ s.cells s.room.nodes s.room.bytes (raised_none s.cells) (raised_none s.room.nodes) (raised_none s.room.bytes)

pub grown_more : (s a b : Checked) → grown s (together a b) ≡ grown (grown s a) b
grown_more s a b =
    count_is _ _ _ _ _ _ (raised_more s.cells a.cells b.cells) (raised_more s.room.nodes a.room.nodes b.room.nodes)
    (raised_more s.room.bytes a.room.bytes b.room.bytes)

pub first_nothing : (a : Checked) → together nothing a ≡ a
first_nothing a = count_is _ _ _ a.cells a.room.nodes a.room.bytes (omega arith) (omega arith) (omega arith)

-- ---- the defaults of the fields from a place on

pub defaults_step : (fs : List DefField) (i : ℕ) (f : DefField) (ids : List ℤ) (b : Bool) → slice_get fs i ≡ Some f → is_among f.id ids ≡ b
    → defaults_beside (drop i fs) ids ≡ together (cond b nothing (default_count f)) (defaults_beside (drop (i + 1) fs) ids)
defaults_step fs i f ids b e h =
    ap (λ (gs : List DefField). defaults_beside gs ids) (drop_get fs i f e)
    ∙ ap (λ (c : Bool). together (cond c nothing (default_count f)) (defaults_beside (drop (i + 1) fs) ids)) h

pub defaults_done : (fs : List DefField) (i : ℕ) (ids : List ℤ) → length fs ≤ i → defaults_beside (drop i fs) ids ≡ nothing
defaults_done fs i ids h = ap (λ (gs : List DefField). defaults_beside gs ids) (drop_all fs i h)

-- fields that stood add nothing
pub stood_defaults : (fs : List DefField) (ids : List ℤ) (n : ℕ) → HaveStood fs ids n → defaults_beside (drop n fs) ids ≡ defaults_beside fs ids
stood_defaults [] ids zero h = refl
stood_defaults [] ids (suc n) h = refl
stood_defaults (f ∷ fs) ids zero h = refl
stood_defaults (f ∷ fs) ids (suc n) h =
    let among : is_among f.id ids ≡ true = h 0 f (omega arith) refl in
    stood_defaults fs ids n (λ i g l e. h (suc i) g (omega (arith, l)) e) ∙ sym (first_nothing (defaults_beside fs ids))
    ∙ sym (ap (λ (c : Bool). together (cond c nothing (default_count f)) (defaults_beside fs ids)) among)

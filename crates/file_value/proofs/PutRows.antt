-- Trees put one after the other, and joined.
use Rattle.std.proofs.Common.{◌≡◌, ℕ, zero, suc, ◌+◌, ◌*◌, ◌≤◌, ◌<◌, List, [], ◌∷◌, ◌++◌, length, take, refl}
use Rattle.std.proofs.Common.{sym, ap}
use Rattle.std.proofs.Common.{◌∙◌, arith, append_assoc, append-nil, length-append, Result, Ok, Err}
use Rattle.std.proofs.Common.{OnOk}
use Rattle.std.proofs.lemmas.List.{take_more}
use Rattle.std.proofs.Math.Seq.{take-length}
use Rattle.frozen_model.specs.Trees.{AList}
use Rattle.frozen_model.specs.Values.{Value, Values, Items, Absent, count, nth}
use Rattle.key_order.specs.InOrder.{row}
use Rattle.typed_tree.specs.Parts.{IsList, items_of, pairs}
use Rattle.typed_tree.specs.Spots.{pair}
use Rattle.typed_tree.specs.Trees.{last, but_last}
use Rattle.compact_codec.proofs.Joins.{last_is, front_is}
use Rattle.compact_codec.proofs.Listed.{row-listed}
use Rattle.file_value.specs.Putting.{listed, PutPairs}
use Rattle.file_value.proofs.Rows.{length_listed, listed_at}

-- the last trees joined
pub joined : (make : List Value → Value) (old ts us new : List Value) (n : ℕ) (v : Value) → length ts ≡ n
    → us ≡ old ++ ts → make ts ≡ v → new ≡ but_last n us ++ make (last n us) ∷ [] → new ≡ old ++ v ∷ []
joined make old ts us new n v long put whole e =
    e
    ∙ ap (λ zs. but_last n zs ++ make (last n zs) ∷ []) put
    ∙ ap (λ zs. zs ++ make (last n (old ++ ts)) ∷ []) (front_is n old ts long)
    ∙ ap (λ zs. old ++ make zs ∷ []) (last_is n old ts long)
    ∙ ap (λ x. old ++ x ∷ []) whole

pub last_put : (old ts us : List Value) (n : ℕ) → length ts ≡ n → us ≡ old ++ ts → last n us ≡ ts
last_put old ts us n long put = ap (last n) put ∙ last_is n old ts long

pub enough : (old ts us : List Value) (n : ℕ) → length ts ≡ n → us ≡ old ++ ts → n ≤ length us
enough old ts us n long put = omega (arith, long, ap length put, length-append old ts)

-- ---- items

-- one more of the trees that are to be put
pub one_more : {A : Type 0} (all old us new : List A) (i : ℕ) (v : A) → us ≡ old ++ take i all
    → take (i + 1) all ≡ take i all ++ v ∷ [] → new ≡ us ++ v ∷ [] → new ≡ old ++ take (i + 1) all
one_more all old us new i v so_far more e =
    e ∙ ap (λ (zs : List _). zs ++ v ∷ []) so_far ∙ append_assoc old (take i all) (v ∷ [])
    ∙ ap (λ zs. old ++ zs) (sym more)

pub next_listed : (vs : Values) (i : ℕ) → i < count vs
    → take (i + 1) (listed vs) ≡ take i (listed vs) ++ nth vs i ∷ []
next_listed vs i lt =
    take_more (listed vs) i Absent (omega (arith, lt, length_listed vs))
    ∙ ap (λ x. take i (listed vs) ++ x ∷ []) (listed_at vs i Absent lt)

pub all_listed : (vs : Values) (old us : List Value) (i : ℕ) → i ≡ count vs → us ≡ old ++ take i (listed vs)
    → us ≡ old ++ listed vs
all_listed vs old us i all e =
    let long : i ≡ length (listed vs) = omega (arith, all, length_listed vs) in
    e ∙ ap (λ n. old ++ take n (listed vs)) long ∙ ap (λ zs. old ++ zs) (take-length (listed vs))

pub list_is : (v : Value) → IsList v → Items AList (row (listed (items_of v))) ≡ v
list_is (Items AList vs) h = ap (Items AList) (row-listed vs)
list_is v h = absurd h

-- ---- pairs

pairs_more : (n : ℕ) (ts : List Value) (key v : Value) → length ts ≡ 2 * n
    → pairs (ts ++ key ∷ v ∷ []) ≡ pairs ts ++ pair key v ∷ []
pairs_more zero [] key v e = refl
pairs_more zero (t ∷ ts) key v e = absurd (omega (arith, e))
pairs_more (suc n) [] key v e = absurd (omega (arith, e))
pairs_more (suc n) (t ∷ []) key v e = absurd (omega (arith, e))
pairs_more (suc n) (t ∷ u ∷ ts) key v e = ap (λ zs. pair t u ∷ zs) (pairs_more n ts key v (omega (arith, e)))

pub no_pairs : (old : List Value) (vs : Values) → PutPairs old old vs 0
no_pairs old vs = record { turns = []; put = sym (append-nil old); paired = refl; long = refl }

pub pair_put : (old us mid new : List Value) (vs : Values) (i : ℕ) (key v : Value) → i < count vs
    → nth vs i ≡ pair key v → PutPairs old us vs i → mid ≡ us ++ key ∷ [] → new ≡ mid ++ v ∷ []
    → PutPairs old new vs (i + 1)
pair_put old us mid new vs i key v lt at h first second =
    let ts = h.turns in record {
      turns = ts ++ key ∷ v ∷ [];
      put =
          second
          ∙ ap (λ zs. zs ++ v ∷ []) first
          ∙ append_assoc us (key ∷ []) (v ∷ [])
          ∙ ap (λ zs. zs ++ key ∷ v ∷ []) h.put
          ∙ append_assoc old ts (key ∷ v ∷ []);
      paired =
          pairs_more i ts key v h.long
          ∙ ap (λ zs. zs ++ pair key v ∷ []) h.paired
          ∙ ap (λ x. take i (listed vs) ++ x ∷ []) (sym at)
          ∙ sym (next_listed vs i lt);
      long = omega (arith, h.long, length-append ts (key ∷ v ∷ []));
    }

pub all_paired : (vs : Values) (old new : List Value) (h : PutPairs old new vs (count vs))
    → pairs h.turns ≡ listed vs
all_paired vs old new h =
    h.paired ∙ ap (λ n. take n (listed vs)) (sym (length_listed vs)) ∙ take-length (listed vs)

pub on_ok : {T E : Type 0} {P Q : Type 0} (r : Result T E) → OnOk r P → (P → Q) → OnOk r Q
on_ok (Ok x) p f = f p
on_ok (Err e) p f = p

-- the one tree on a stack is the one that was put
pub only_tree : (old us : List Value) (u v : Value) → us ≡ u ∷ [] → us ≡ old ++ v ∷ [] → old ≡ [] → u ≡ v
only_tree old us u v e put empty =
    let same : u ∷ [] ≡ v ∷ [] = sym e ∙ put ∙ ap (λ zs. zs ++ v ∷ []) empty in
    cc

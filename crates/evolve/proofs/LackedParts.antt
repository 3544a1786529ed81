-- Adding the nodes of what the file lacks.
use Rattle.std.proofs.Common.{◌≡◌, ◌⊎◌, inl, inr, ℕ, suc, ◌+◌, List, replicate, drop, slice_get}
use Rattle.std.proofs.Common.{Some, None, Result, Ok, Err, sym, ap, subst, arith}
use Rattle.std.specs.Prelude.{IfOk}
use Rattle.idl_profile.specs.declared.kinds.TypeKind.{TypeKind}
use Rattle.idl_profile.specs.declared.kinds.TypeKind.TheVariants as types
use Rattle.idl_profile.specs.Types.{TypeTree, DefField, kind_of, fields_of}
use Rattle.idl_parse.specs.Refs.{element_of, key_of, value_of}
use Rattle.type_kinds.specs.KindsOf.{kinds_of}
use Rattle.frozen_model.specs.Trees.{KindTree, nodes, nodes_all}
use Rattle.layout_tree.specs.Shapes.{field_kinds, kinds_of_list}
use Rattle.layout_tree.proofs.Shaping.{kinds_are, kinds_at}
use Rattle.evolve.specs.BindSteps.{Adds}
use Rattle.evolve.proofs.Adding.{adds_more}
use Rattle.evolve.proofs.FieldSteps.{dropped}

-- Of a struct's fields those from the i-th on are left, and the nodes of the others are added.
pub record LackLeft (t : TypeTree) (old cur : List ℕ) (i : ℕ) : Type 0 where
  pub done : ℕ
  pub added : Adds old cur (replicate done None)
  pub rest : done + nodes_all (kinds_of_list (drop i (fields_of t))) ≡ nodes (kinds_of t)

pub lack_start : (t : TypeTree) (old cur : List ℕ) → kind_of t ≡ types.Struct
    → Adds old cur (replicate 1 None)
    → LackLeft t old cur 0
lack_start t old cur e a = record {
  done = 1;
  added = a;
  rest = sym (ap (λ (z : KindTree). nodes z) (kinds_are t types.Struct e));
}

pub lack_step : (t : TypeTree) (old cur new : List ℕ) (i : ℕ) (x : DefField) → LackLeft t old cur i
    → slice_get (fields_of t) i ≡ Some x → Adds cur new (replicate (nodes (field_kinds x)) None)
    → LackLeft t old new (i + 1)
lack_step t old cur new i x k e a =
    let step : suc i ≡ i + 1 = omega arith in
    let here : nodes_all (kinds_of_list (drop i (fields_of t)))
    ≡ nodes (field_kinds x) + nodes_all (kinds_of_list (drop (suc i) (fields_of t))) =
    ap (λ (z : List DefField). nodes_all (kinds_of_list z)) (dropped (fields_of t) i x e) in
    subst (λ (j : ℕ). LackLeft t old new j) step (record {
      done = k.done + nodes (field_kinds x);
      added = adds_more old cur new k.done (nodes (field_kinds x)) k.added a;
      rest = omega (arith, k.rest, here);
    })

-- so many, then those of a part
pub lack_both : (a b c : List ℕ) (m n all : ℕ) → Adds a b (replicate m None) → Adds b c (replicate n None)
    → m + n ≡ all → Adds a c (replicate all None)
lack_both a b c m n all f g e =
    subst (λ (k : ℕ). Adds a c (replicate k None)) e (adds_more a b c m n f g)

pub lack_then : {E : Type 0} (a b c : List ℕ) (m n all : ℕ) (q : Result (Unit {0}) E)
    → Adds a b (replicate m None) → IfOk q (λ _. Adds b c (replicate n None)) → m + n ≡ all
    → IfOk q (λ _. Adds a c (replicate all None))
lack_then a b c m n all (Ok done) f g e = lack_both a b c m n all f g e
lack_then a b c m n all (Err x) f g e = tt

-- the item of a list or a set
pub row_kinds : (t : TypeTree) (k : TypeKind) → k ≡ kind_of t → (k ≡ types.List) ⊎ (k ≡ types.Set)
    → 3 + nodes (kinds_of (element_of t)) ≡ nodes (kinds_of t)
row_kinds t k e (inl h) = sym (ap (λ (z : KindTree). nodes z) (kinds_at t k types.List e h))
row_kinds t k e (inr h) = sym (ap (λ (z : KindTree). nodes z) (kinds_at t k types.Set e h))

pub map_kinds : (t : TypeTree) (k : TypeKind) → k ≡ kind_of t → k ≡ types.Map
    → 4 + nodes (kinds_of (key_of t)) + nodes (kinds_of (value_of t)) ≡ nodes (kinds_of t)
map_kinds t k e h = omega (arith, ap (λ (z : KindTree). nodes z) (kinds_at t k types.Map e h))

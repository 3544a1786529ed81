-- As what the trees of a builder were made, where its pool grew and its stack stayed or lost its last numbers.
use Rattle.std.proofs.Common.{◌≡◌, ℕ, zero, suc, ◌+◌, ◌-◌, ◌*◌, ◌<◌, ◌≤◌, List, [], ◌∷◌, ◌++◌, true, nat_lt, length, take, drop, map, get_or, refl, sym, ap, ◌∙◌, subst, arith, length-append, length-drop, length-take-le, get_or-take, get_or-drop}
use Rattle.std.specs.List.{list_all, AllByRecursion}
use Rattle.std.proofs.Math.ListN.{get_or-append}
use Rattle.std.proofs.Math.Seq.{get_or-append_seam, drop-append_seam}
use Rattle.std.proofs.lemmas.List.{append-nil, length-map}
use Rattle.frozen_model.specs.Trees.{KindTree, KindTrees, ItemRange, NoField, Field, ids_of}
use Rattle.frozen_model.specs.Values.{Absent}
use Rattle.typed_tree.specs.declared.builder.Builder.{Builder}
use Rattle.typed_tree.specs.declared.joined.Joined.{Joined}
use Rattle.typed_tree.specs.declared.joined.Joined.TheVariants as j
use Rattle.typed_tree.specs.declared.pool.Pool.{Pool}
use Rattle.typed_tree.specs.declared.spot.Link.{Link}
use Rattle.typed_tree.specs.declared.spot.Run.{Run}
use Rattle.typed_tree.specs.declared.spot.Spot.{Spot}
use Rattle.typed_tree.specs.declared.spot.Spot.TheVariants as s
use Rattle.typed_tree.specs.Made.{spot_at, parts_of, MadeAs, MadeAt, PairMade, AllMade, HoldsMade, ByTurns, holder_of, holder_made, IsMade, AreMade, AreMadeByTurns, ItemsAreMade, AreMadeUnder, Makes, kind_at, kind_under}
use Rattle.typed_tree.specs.Ranges.{pair_kinds}
use Rattle.typed_tree.specs.References.{spot_kind}
use Rattle.typed_tree.specs.Fields.{field_link}
use Rattle.typed_tree.specs.Tables.{turned, AreTaken, AreTakenByTurns}
use Rattle.typed_tree.specs.Pools.{store_of, values_of, Grows}
use Rattle.typed_tree.specs.Spots.{Store, linked, item_link, ids_rise, fits_at}
use Rattle.typed_tree.specs.Trees.{trees, joined_spot}
use Rattle.typed_tree.proofs.Growing.{grows-same}
use Rattle.typed_tree.proofs.Keyed.{below-at}
use Rattle.base_lists.specs.InOrder.{in_order}
use Rattle.typed_tree.proofs.Structs.{all-in_order}
use Rattle.typed_tree.proofs.Made.{each-follows, turns-follow, node-stays, pair-stays-made, spot-stays-made}
use Rattle.typed_tree.proofs.Stack.{below}
use Rattle.typed_tree.proofs.Grow.{below-true}
use Rattle.std.proofs.lemmas.Bool.{and_parts}
use Rattle.std.proofs.lemmas.Bool.Decides.{nat_tests}
use Rattle.std.specs.Prelude.{zip, nat_eq, Bool, false, if◌then◌else◌}

pub trees-many : (b : Builder) → length (trees b) ≡ length b.stack.items
trees-many b = length-map b.stack.items (λ k. get_or (values_of b.pool) k Absent)

-- the number of a tree is one of a node
pub number-there : (b : Builder) (i : ℕ) → i < length b.stack.items → get_or b.stack.items i 0 < length b.pool.nodes.items
number-there b i lt = below-at (length b.pool.nodes.items) b.stack.items i 0 b.placed lt

-- a number in range, whatever stands for what is not
pub same-at : (ks : List ℕ) (i d e : ℕ) → i < length ks → get_or ks i d ≡ get_or ks i e
same-at [] i d e lt = absurd (omega (arith, lt))
same-at (k ∷ ks) zero d e lt = refl
same-at (k ∷ ks) (suc i) d e lt = same-at ks i d e (omega (arith, lt))

-- the pool grew at the ends of what nodes refer to
module _ (a : Builder) (q : Pool) (grows : Grows (store_of a.pool) (store_of q)) (nodes : q.nodes.items ≡ a.pool.nodes.items) where
  more-none : q.nodes.items ≡ a.pool.nodes.items ++ []
  more-none = nodes ∙ sym (append-nil a.pool.nodes.items)

  pub node-kept : (t : KindTree) (n : ℕ) → n < length a.pool.nodes.items → MadeAt (store_of a.pool) a.pool.nodes.items t n → MadeAt (store_of q) q.nodes.items t n
  node-kept t n lt h = node-stays (store_of a.pool) (store_of q) grows a.pool.nodes.items q.nodes.items [] a.pool.ordered more-none t n lt h

  pub pair-kept : (t : KindTree) (m n : ℕ) → m < length a.pool.nodes.items → n < length a.pool.nodes.items → PairMade (store_of a.pool) a.pool.nodes.items t m n → PairMade (store_of q) q.nodes.items t m n
  pair-kept t m n low high h = pair-stays-made (store_of a.pool) (store_of q) grows a.pool.nodes.items q.nodes.items [] a.pool.ordered more-none t m n low high h

  -- items that are joined
  items-kept : (to : Joined) (t : KindTree) (ks : List ℕ) → below (length a.pool.nodes.items) ks → ItemsAreMade to a t ks
      → HoldsMade (holder_of to) (MadeAt (store_of q) q.nodes.items t) (PairMade (store_of q) q.nodes.items t) ks
  items-kept j.List t ks low h = each-follows (length a.pool.nodes.items) _ _ (node-kept t) ks low h
  items-kept j.Set t ks low h = each-follows (length a.pool.nodes.items) _ _ (node-kept t) ks low h
  items-kept j.Map t ks low h = turns-follow (length a.pool.nodes.items) _ _ (pair-kept t) ks low h

  pub join-made : (to : Joined) (t : KindTree) (r : Run) (x : Spot) (ks : List ℕ) → x ≡ joined_spot to r → linked (store_of q) r ≡ map item_link ks → below (length a.pool.nodes.items) ks → ItemsAreMade to a t ks
      → MadeAs (store_of q) q.nodes.items (ItemRange (holder_of to) tt tt t) x
  join-made to t r x ks is links low h =
      subst (MadeAs (store_of q) q.nodes.items (ItemRange (holder_of to) tt tt t)) (sym is)
      (joined-made to r, subst (HoldsMade (holder_of to) (MadeAt (store_of q) q.nodes.items t) (PairMade (store_of q) q.nodes.items t)) (sym (joined-parts to (store_of q) r ks links)) (items-kept to t ks low h))
    where
      joined-made : (to : Joined) (r : Run) → spot_kind (joined_spot to r) ≡ holder_made (holder_of to)
      joined-made j.List r = refl
      joined-made j.Set r = refl
      joined-made j.Map r = refl

      nodes-items : (ks : List ℕ) → map (λ (l : Link). l.node) (map item_link ks) ≡ ks
      nodes-items [] = refl
      nodes-items (k ∷ ks) = ap (λ js. k ∷ js) (nodes-items ks)

      joined-parts : (to : Joined) (st : Store) (r : Run) (ks : List ℕ) → linked st r ≡ map item_link ks → parts_of st (joined_spot to r) ≡ ks
      joined-parts j.List st r ks e = ap (λ (ls : List Link). map (λ l. l.node) ls) e ∙ nodes-items ks
      joined-parts j.Set st r ks e = ap (λ (ls : List Link). map (λ l. l.node) ls) e ∙ nodes-items ks
      joined-parts j.Map st r ks e = ap (λ (ls : List Link). map (λ l. l.node) ls) e ∙ nodes-items ks

-- and the first so many trees stayed
pub record Carries (a b : Builder) (m : ℕ) : Type 0 where
  pub grows : Grows (store_of a.pool) (store_of b.pool)
  pub nodes : b.pool.nodes.items ≡ a.pool.nodes.items
  pub stack : (i : ℕ) → i < m → get_or b.stack.items i 0 ≡ get_or a.stack.items i 0
  pub within : m ≤ length a.stack.items

pub carries-same : (a b : Builder) → Grows (store_of a.pool) (store_of b.pool) → b.pool.nodes.items ≡ a.pool.nodes.items → b.stack.items ≡ a.stack.items → Carries a b (length a.stack.items)
carries-same a b grows nodes stack = record { grows = grows; nodes = nodes; stack = λ i lt. ap (λ (ks : List ℕ). get_or ks i 0) stack; within = omega arith }

pub carries-first : (a b : Builder) (m : ℕ) → Grows (store_of a.pool) (store_of b.pool) → b.pool.nodes.items ≡ a.pool.nodes.items → b.stack.items ≡ take m a.stack.items → m ≤ length a.stack.items → Carries a b m
carries-first a b m grows nodes stack within = record { grows = grows; nodes = nodes; stack = λ i lt. ap (λ (ks : List ℕ). get_or ks i 0) stack ∙ get_or-take m a.stack.items i 0 lt; within = within }

pub carries-replaced : (a b : Builder) (m : ℕ) (ks : List ℕ) → Grows (store_of a.pool) (store_of b.pool) → b.pool.nodes.items ≡ a.pool.nodes.items → b.stack.items ≡ take m a.stack.items ++ ks → m ≤ length a.stack.items → Carries a b m
carries-replaced a b m ks grows nodes stack within = record {
  grows = grows;
  nodes = nodes;
  stack = λ i lt.
      ap (λ (js : List ℕ). get_or js i 0) stack ∙ get_or-append (take m a.stack.items) ks 0 i (omega (arith, lt, length-take-le m a.stack.items within)) ∙ get_or-take m a.stack.items i 0 lt;
  within = within;
}

-- a tree that was put after that
pub makes-from : (a b d : Builder) (k m n : ℕ) (t : KindTree) → Makes b d m t → Carries a b k → length (trees a) - n ≤ k → length (trees b) - m ≡ length (trees a) - n → Makes a d n t
makes-from a b d k m n t p h low here = record {
  many = p.many ∙ ap (λ i. i + 1) here;
  kept = λ i l lt made.
      let there : i < k = omega (arith, lt, low) in
      let was = node-kept a b.pool h.grows h.nodes l (get_or a.stack.items i 0) (number-there a i (omega (arith, there, h.within))) made in
      p.kept i l (omega (arith, lt, here)) (subst (MadeAt (store_of b.pool) b.pool.nodes.items l) (sym (h.stack i there)) was);
  made = subst (λ i. IsMade d i t) here p.made;
}

-- of a builder that lost its last trees
pub makes-cut : (a b d : Builder) (m n : ℕ) (t : KindTree) → Makes b d 0 t → Grows (store_of a.pool) (store_of b.pool) → b.pool.nodes.items ≡ a.pool.nodes.items → b.stack.items ≡ take m a.stack.items → m ≤ length a.stack.items → m ≡ length (trees a) - n
    → Makes a d n t
makes-cut a b d m n t p grows nodes stack within at =
    makes-from a b d m 0 n t p (carries-first a b m grows nodes stack within) (omega (arith, at))
    (omega (arith, at, trees-many b, ap (λ (ks : List ℕ). length ks) stack, length-take-le m a.stack.items within))

-- of a builder whose trees stayed
pub makes-grown : (a b d : Builder) (t : KindTree) → Makes b d 0 t → Grows (store_of a.pool) (store_of b.pool) → b.pool.nodes.items ≡ a.pool.nodes.items → b.stack.items ≡ a.stack.items → Makes a d 0 t
makes-grown a b d t p grows nodes stack =
    makes-from a b d (length a.stack.items) 0 0 t p (carries-same a b grows nodes stack) (omega (arith, trees-many a))
    (omega (arith, trees-many a, trees-many b, ap (λ (ks : List ℕ). length ks) stack))

-- the last trees, by their numbers
pub last-made : (a : Builder) (from n : ℕ) (t : KindTree) → from + n ≡ length a.stack.items → AreMade a from n t → (i : ℕ) → i < length (drop from a.stack.items) → MadeAt (store_of a.pool) a.pool.nodes.items t (get_or (drop from a.stack.items) i 0)
last-made a from n t e h i lt =
    subst (MadeAt (store_of a.pool) a.pool.nodes.items t) (sym (get_or-drop from a.stack.items i 0)) (h i (omega (arith, lt, e, length-drop from a.stack.items)))

pub last-turns : (a : Builder) (from n : ℕ) (key value : KindTree) → from + 2 * n ≡ length a.stack.items → AreMadeByTurns a from n key value → (i : ℕ) → 2 * i + 1 < length (drop from a.stack.items)
    → PairMade (store_of a.pool) a.pool.nodes.items (pair_kinds key value) (get_or (drop from a.stack.items) (2 * i) 0) (get_or (drop from a.stack.items) (2 * i + 1) 0)
last-turns a from n key value e h i lt =
    let st = store_of a.pool in
    let xs = a.pool.nodes.items in
    let both = h i (omega (arith, lt, e, length-drop from a.stack.items)) in
    let at : from + 2 * i + 1 ≡ from + (2 * i + 1) = omega arith in
    (subst (MadeAt st xs key) (sym (get_or-drop from a.stack.items (2 * i) 0)) both.0, (subst (MadeAt st xs value) (ap (λ n. get_or a.stack.items n 0) at ∙ sym (get_or-drop from a.stack.items (2 * i + 1) 0)) both.1, tt))

-- one node more, and its number
pub makes-put : (a d : Builder) (x : Spot) (n : ℕ) (t : KindTree) → store_of d.pool ≡ store_of a.pool → d.pool.nodes.items ≡ a.pool.nodes.items ++ x ∷ [] → d.stack.items ≡ a.stack.items ++ n ∷ [] → n ≡ length a.pool.nodes.items
    → fits_at (store_of a.pool) (length a.pool.nodes.items) x ≡ true → MadeAs (store_of a.pool) a.pool.nodes.items t x → Makes a d 0 t
makes-put a d x n t store nodes stack number fit made =
    let st = store_of a.pool in
    let xs = a.pool.nodes.items in
    let grows = grows-same st (store_of d.pool) store in
    let more = ap (λ (ks : List ℕ). length ks) stack in
    let top : get_or d.stack.items (length (trees a) - 0) 0 ≡ length xs =
    ap (λ (ks : List ℕ). get_or ks (length (trees a) - 0) 0) stack ∙ ap (λ i. get_or (a.stack.items ++ n ∷ []) i 0) (let e : length (trees a) - 0 ≡ length a.stack.items = omega (arith, trees-many a) in e) ∙ get_or-append_seam a.stack.items n [] 0 ∙ number in
    let spot : spot_at d.pool.nodes.items (get_or d.stack.items (length (trees a) - 0) 0) ≡ x =
    ap (spot_at d.pool.nodes.items) top ∙ ap (λ (zs : List Spot). spot_at zs (length xs)) nodes ∙ get_or-append_seam xs x [] s.Absent in
    record {
      many = omega (arith, trees-many a, trees-many d, more, length-append a.stack.items (n ∷ []));
      kept =
          λ i l lt h.
          let there : i < length a.stack.items = omega (arith, lt, trees-many a) in
          let same : get_or d.stack.items i 0 ≡ get_or a.stack.items i 0 = ap (λ (ks : List ℕ). get_or ks i 0) stack ∙ get_or-append a.stack.items (n ∷ []) 0 i there in
          subst (MadeAt (store_of d.pool) d.pool.nodes.items l) (sym same) (node-stays st (store_of d.pool) grows xs d.pool.nodes.items (x ∷ []) a.pool.ordered nodes l (get_or a.stack.items i 0) (number-there a i there) h);
      made = subst (MadeAs (store_of d.pool) d.pool.nodes.items t) (sym spot) (spot-stays-made st (store_of d.pool) grows xs d.pool.nodes.items (x ∷ []) a.pool.ordered nodes t x fit made);
    }

-- what is so of the numbers at all places is so of each number
pub each-at : (P : ℕ → Type 0) (ks : List ℕ) → ((i : ℕ) → i < length ks → P (get_or ks i 0)) → AllByRecursion P ks
each-at P [] f = tt
each-at P (k ∷ ks) f = (f 0 (omega arith), each-at P ks (λ i lt. f (suc i) (omega (arith, lt))))

pub turns-at : (R : ℕ → ℕ → Type 0) (ks : List ℕ) → ((i : ℕ) → 2 * i + 1 < length ks → R (get_or ks (2 * i) 0) (get_or ks (2 * i + 1) 0)) → ByTurns R ks
turns-at R [] f = tt
turns-at R (k ∷ []) f = tt
turns-at R (k ∷ v ∷ ks) f = (
  f 0 (omega arith),
  turns-at R ks (λ i lt.
      let e : 2 * suc i ≡ suc (suc (2 * i)) = omega arith in
      let g : 2 * suc i + 1 ≡ suc (suc (2 * i + 1)) = omega arith in
      let both = f (suc i) (omega (arith, lt)) in
      subst (λ (n : ℕ). R (get_or ks (2 * i) 0) (get_or (k ∷ v ∷ ks) n 0)) g (subst (λ (n : ℕ). R (get_or (k ∷ v ∷ ks) n 0) (get_or (k ∷ v ∷ ks) (2 * suc i + 1) 0)) e both)),
)

-- and of those that are taken from them
pub taken-each : (P : ℕ → Type 0) (ks ps : List ℕ) → ((i : ℕ) → i < length ks → P (get_or ks i 0)) → AllByRecursion (λ p. p < length ks) ps → AllByRecursion P (map (λ p. get_or ks p 0) ps)
taken-each P ks [] f h = tt
taken-each P ks (p ∷ ps) f h = (f p h.0, taken-each P ks ps f h.1)

pub taken-turns : (R : ℕ → ℕ → Type 0) (ks ps : List ℕ) → ((i : ℕ) → 2 * i + 1 < length ks → R (get_or ks (2 * i) 0) (get_or ks (2 * i + 1) 0)) → AllByRecursion (λ p. 2 * p + 1 < length ks) ps → ByTurns R (turned ks ps)
taken-turns R ks [] f h = tt
taken-turns R ks (p ∷ ps) f h = (f p h.0, taken-turns R ks ps f h.1)

-- the same nodes, of a builder that has only other memory
pub items-same : (to : Joined) (a d : Builder) (t : KindTree) (ks : List ℕ) → store_of d.pool ≡ store_of a.pool → d.pool.nodes.items ≡ a.pool.nodes.items → ItemsAreMade to a t ks → ItemsAreMade to d t ks
items-same to a d t ks store nodes h =
    subst (λ (st : Store). HoldsMade (holder_of to) (MadeAt st d.pool.nodes.items t) (PairMade st d.pool.nodes.items t) ks) (sym store)
    (subst (λ (xs : List Spot). HoldsMade (holder_of to) (MadeAt (store_of a.pool) xs t) (PairMade (store_of a.pool) xs t) ks) (sym nodes) h)

-- of no trees
pub none-made : (to : Joined) (a : Builder) (t : KindTree) → ItemsAreMade to a t []
none-made j.List a t = tt
none-made j.Set a t = tt
none-made j.Map a t = tt

pub drop-replaced : (base : ℕ) (st ks xs : List ℕ) → base ≤ length st → xs ≡ take base st ++ ks → drop base xs ≡ ks
drop-replaced base st ks xs there e = ap (drop base) e ∙ ap (λ n. drop n (take base st ++ ks)) (sym (length-take-le base st there)) ∙ drop-append_seam (take base st) ks

-- the last trees are joined as they stand, once there was room
pub makes-last : (a d e : Builder) (n base : ℕ) (to : Joined) (t : KindTree) → ((ls : KindTree) → ItemsAreMade to d ls (drop base d.stack.items) → Makes d e (length d.stack.items - base) (ItemRange (holder_of to) tt tt ls))
    → store_of d.pool ≡ store_of a.pool → d.pool.nodes.items ≡ a.pool.nodes.items → d.stack.items ≡ a.stack.items → base ≡ length (trees a) - n → n ≤ length (trees a)
    → ItemsAreMade to a t (drop base a.stack.items) → Makes a e n (ItemRange (holder_of to) tt tt t)
makes-last a d e n base to t join store nodes stack at some h =
    let same = subst (λ (ks : List ℕ). ItemsAreMade to d t ks) (sym (ap (drop base) stack)) (items-same to a d t (drop base a.stack.items) store nodes h) in
    let many = ap (λ (ks : List ℕ). length ks) stack in
    makes-from a d e (length a.stack.items) (length d.stack.items - base) n (ItemRange (holder_of to) tt tt t) (join t same)
    (carries-same a d (grows-same (store_of a.pool) (store_of d.pool) store) nodes stack) (omega (arith, trees-many a)) (omega (arith, trees-many a, trees-many d, many, at, some))

-- and so are other nodes in their place
pub makes-nodes : (a d e : Builder) (n base : ℕ) (to : Joined) (t : KindTree) (ks : List ℕ) → ((ls : KindTree) → ItemsAreMade to d ls (drop base d.stack.items) → Makes d e (length d.stack.items - base) (ItemRange (holder_of to) tt tt ls))
    → store_of d.pool ≡ store_of a.pool → d.pool.nodes.items ≡ a.pool.nodes.items → d.stack.items ≡ take base a.stack.items ++ ks → base ≤ length a.stack.items → base ≡ length (trees a) - n
    → ItemsAreMade to a t ks → Makes a e n (ItemRange (holder_of to) tt tt t)
makes-nodes a d e n base to t ks join store nodes stack within at h =
    let same = subst (λ (js : List ℕ). ItemsAreMade to d t js) (sym (drop-replaced base a.stack.items ks d.stack.items within stack)) (items-same to a d t ks store nodes h) in
    let many = ap (λ (js : List ℕ). length js) stack in
    makes-from a d e base (length d.stack.items - base) n (ItemRange (holder_of to) tt tt t) (join t same)
    (carries-replaced a d base ks (grows-same (store_of a.pool) (store_of d.pool) store) nodes stack within) (omega (arith, at))
    (omega (arith, at, trees-many d, many, length-append (take base a.stack.items) ks, length-take-le base a.stack.items within))

-- the items of a list or a set, and of a map
pub items-each : (a : Builder) (from n : ℕ) (t : KindTree) → from + n ≡ length a.stack.items → AreMade a from n t → AllByRecursion (MadeAt (store_of a.pool) a.pool.nodes.items t) (drop from a.stack.items)
items-each a from n t e h = each-at (MadeAt (store_of a.pool) a.pool.nodes.items t) (drop from a.stack.items) (last-made a from n t e h)

pub items-turns : (a : Builder) (from n : ℕ) (key value : KindTree) → from + 2 * n ≡ length a.stack.items → AreMadeByTurns a from n key value → ByTurns (PairMade (store_of a.pool) a.pool.nodes.items (pair_kinds key value)) (drop from a.stack.items)
items-turns a from n key value e h = turns-at (PairMade (store_of a.pool) a.pool.nodes.items (pair_kinds key value)) (drop from a.stack.items) (last-turns a from n key value e h)

-- and of those that are taken from them
pub items-taken : (a : Builder) (from n : ℕ) (t : KindTree) (ks js : List ℕ) → from + n ≡ length a.stack.items → AreMade a from n t → ks ≡ drop from a.stack.items → AreTaken ks js → AllByRecursion (MadeAt (store_of a.pool) a.pool.nodes.items t) js
items-taken a from n t ks js e h is taken =
    let P = MadeAt (store_of a.pool) a.pool.nodes.items t in
    let g = subst (λ (zs : List ℕ). (i : ℕ) → i < length zs → P (get_or zs i 0)) (sym is) (last-made a from n t e h) in
    subst (AllByRecursion P) (sym taken.1) (taken-each P ks taken.0 g taken.2)

pub turns-taken : (a : Builder) (from n : ℕ) (key value : KindTree) (ks js : List ℕ) → from + 2 * n ≡ length a.stack.items → AreMadeByTurns a from n key value → ks ≡ drop from a.stack.items → AreTakenByTurns ks js
    → ByTurns (PairMade (store_of a.pool) a.pool.nodes.items (pair_kinds key value)) js
turns-taken a from n key value ks js e h is taken =
    let R = PairMade (store_of a.pool) a.pool.nodes.items (pair_kinds key value) in
    let g = subst (λ (zs : List ℕ). (i : ℕ) → 2 * i + 1 < length zs → R (get_or zs (2 * i) 0) (get_or zs (2 * i + 1) 0)) (sym is) (last-turns a from n key value e h) in
    subst (ByTurns R) (sym taken.1) (taken-turns R ks taken.0 g taken.2)

-- ---- fields under their ids

-- links to nodes that were made as the fields with their ids
pub under-links : (P : ℕ → ℕ → Type 0) (ids ks : List ℕ) → ((i : ℕ) → i < length ids → P (get_or ids i 0) (get_or ks i 0)) → AllByRecursion (λ (l : Link). P l.id l.node) (map field_link (zip ids ks))
under-links P [] ks h = tt
under-links P (i ∷ ids) [] h = tt
under-links P (i ∷ ids) (k ∷ ks) h = (h 0 (omega arith), under-links P ids ks (λ n lt. h (suc n) (omega (arith, lt))))

eq-same : (m n : ℕ) → m ≡ n → nat_eq m n ≡ true
eq-same m n e = grind (arith, nat_tests)

eq-below : (m n : ℕ) → m < n → nat_eq m n ≡ false
eq-below m n lt = by (nat_eq m n) refl
  where
    by : (b : Bool) → nat_eq m n ≡ b → b ≡ false
    by false e = refl
    by true e = absurd (let same : m ≡ n = grind (arith, nat_tests) in omega (arith, lt, same))

module _ (st : Store) (xs : List Spot) where
  -- past a field, the others have other ids
  past : (i : ℕ) (l : KindTree) (ls : KindTrees) (ks : List Link) → list_all (λ (k : Link). nat_lt i k.id) ks ≡ true
      → AllByRecursion (λ (k : Link). MadeAt st xs (kind_under (Field i l ls) k.id) k.node) ks → AllByRecursion (λ (k : Link). MadeAt st xs (kind_under ls k.id) k.node) ks
  past i l ls [] up h = tt
  past i l ls (k ∷ ks) up h =
      let p = and_parts (nat_lt i k.id) (list_all (λ (k : Link). nat_lt i k.id) ks) up in
      let other = eq-below i k.id (below-true i k.id p.0) in
      (subst (λ (b : Bool). MadeAt st xs (if b then l else kind_under ls k.id) k.node) other h.0, past i l ls ks p.1 h.1)

  pub under-all : (ls : KindTrees) (ks : List Link) → ids_rise ks ≡ true → map (λ (k : Link). k.id) ks ≡ ids_of ls → AllByRecursion (λ (k : Link). MadeAt st xs (kind_under ls k.id) k.node) ks → AllMade st xs ls (map (λ (k : Link). k.node) ks)
  under-all NoField [] rise ids h = tt
  under-all NoField (k ∷ ks) rise ids h = absurd (omega (arith, ap (λ zs. length zs) ids))
  under-all (Field i l ls) [] rise ids h = absurd (omega (arith, ap (λ zs. length zs) ids))
  under-all (Field i l ls) (k ∷ ks) rise ids h =
      let first : k.id ≡ i = ap (λ zs. get_or zs 0 0) ids in
      let p = and_parts (list_all (λ (j : Link). nat_lt k.id j.id) ks) (ids_rise ks) rise in
      let here = subst (λ (b : Bool). MadeAt st xs (if b then l else kind_under ls k.id) k.node) (eq-same i k.id (sym first)) h.0 in
      (here, under-all ls ks p.1 (ap (drop 1) ids) (past i l ls ks (subst (λ (n : ℕ). list_all (λ (j : Link). nat_lt n j.id) ks ≡ true) first p.0) h.1))

  -- what is so of each part is so of the one that a link leads to
  pub each-link : (P : ℕ → Type 0) (ks : List Link) (i : ℕ) (d : Link) → AllByRecursion P (map (λ (k : Link). k.node) ks) → i < length ks → P (get_or ks i d).node
  each-link P [] i d h lt = absurd (omega (arith, lt))
  each-link P (k ∷ ks) zero d h lt = h.0
  each-link P (k ∷ ks) (suc i) d h lt = each-link P ks i d h.1 (omega (arith, lt))

  pub turn-link : (R : ℕ → ℕ → Type 0) (ks : List Link) (i : ℕ) (d e : Link) → ByTurns R (map (λ (k : Link). k.node) ks) → 2 * i + 1 < length ks → R (get_or ks (2 * i) d).node (get_or ks (2 * i + 1) e).node
  turn-link R [] i d e h lt = absurd (omega (arith, lt))
  turn-link R (k ∷ []) i d e h lt = absurd (omega (arith, lt))
  turn-link R (k ∷ v ∷ ks) zero d e h lt = h.0
  turn-link R (k ∷ v ∷ ks) (suc i) d e h lt =
      let at : 2 * suc i ≡ suc (suc (2 * i)) = omega arith in
      let next : 2 * suc i + 1 ≡ suc (suc (2 * i + 1)) = omega arith in
      let rest = turn-link R ks i d e h.1 (omega (arith, lt)) in
      subst (λ (n : ℕ). R (get_or (k ∷ v ∷ ks) n d).node (get_or (k ∷ v ∷ ks) (2 * suc i + 1) e).node) (sym at)
      (subst (λ (n : ℕ). R (get_or ks (2 * i) d).node (get_or (k ∷ v ∷ ks) n e).node) (sym next) rest)

  pub field-link : (ls : KindTrees) (ks : List Link) (i : ℕ) (d : Link) → AllMade st xs ls (map (λ (k : Link). k.node) ks) → i < length ks → MadeAt st xs (kind_at ls i) (get_or ks i d).node
  field-link NoField [] i d h lt = absurd (omega (arith, lt))
  field-link NoField (k ∷ ks) i d h lt = absurd h
  field-link (Field j l ls) [] i d h lt = absurd h
  field-link (Field j l ls) (k ∷ ks) zero d h lt = h.0
  field-link (Field j l ls) (k ∷ ks) (suc i) d h lt = field-link ls ks i d h.1 (omega (arith, lt))

  pub under-link : (ls : KindTrees) (ks : List Link) (i : ℕ) (d : Link) (id : ℕ) → ids_rise ks ≡ true → map (λ (k : Link). k.id) ks ≡ ids_of ls → AllMade st xs ls (map (λ (k : Link). k.node) ks) → i < length ks → (get_or ks i d).id ≡ id → MadeAt st xs (kind_under ls id) (get_or ks i d).node
  under-link NoField [] i d id rise ids h lt e = absurd (omega (arith, lt))
  under-link NoField (k ∷ ks) i d id rise ids h lt e = absurd h
  under-link (Field j l ls) [] i d id rise ids h lt e = absurd h
  under-link (Field j l ls) (k ∷ ks) zero d id rise ids h lt e =
      let first : k.id ≡ j = ap (λ zs. get_or zs 0 0) ids in
      subst (λ (b : Bool). MadeAt st xs (if b then l else kind_under ls id) k.node) (sym (eq-same j id (sym first ∙ e))) h.0
  under-link (Field j l ls) (k ∷ ks) (suc i) d id rise ids h lt e =
      let first : k.id ≡ j = ap (λ zs. get_or zs 0 0) ids in
      let p = and_parts (list_all (λ (m : Link). nat_lt k.id m.id) ks) (ids_rise ks) rise in
      let up = above k.id ks i d p.0 (omega (arith, lt)) in
      subst (λ (b : Bool). MadeAt st xs (if b then l else kind_under ls id) (get_or ks i d).node) (sym (eq-below j id (omega (arith, up, first, e))))
      (under-link ls ks i d id p.1 (ap (drop 1) ids) h.1 (omega (arith, lt)) e)
    where
      above : (n : ℕ) (ks : List Link) (i : ℕ) (d : Link) → list_all (λ (m : Link). nat_lt n m.id) ks ≡ true → i < length ks → n < (get_or ks i d).id
      above n [] i d h lt = absurd (omega (arith, lt))
      above n (k ∷ ks) zero d h lt = below-true n k.id (and_parts (nat_lt n k.id) (list_all (λ (m : Link). nat_lt n m.id) ks) h).0
      above n (k ∷ ks) (suc i) d h lt = above n ks i d (and_parts (nat_lt n k.id) (list_all (λ (m : Link). nat_lt n m.id) ks) h).1 (omega (arith, lt))

-- the last trees under their ids become the fields of a struct
pub struct-made : (a : Builder) (q : Pool) (grows : Grows (store_of a.pool) (store_of q)) (nodes : q.nodes.items ≡ a.pool.nodes.items) (ls : KindTrees) (ids : List ℕ) (from n : ℕ) (ks : List ℕ) (links : List Link) → from + n ≡ length a.stack.items → n ≡ length ids
    → ks ≡ drop from a.stack.items → links ≡ in_order nat_lt (λ (l : Link). l.id) (map field_link (zip ids ks)) → ids_rise links ≡ true → map (λ (l : Link). l.id) links ≡ ids_of ls → AreMadeUnder a from ids ls
    → (map (λ (l : Link). l.id) links ≡ ids_of ls) × AllMade (store_of q) q.nodes.items ls (map (λ (l : Link). l.node) links)
struct-made a q grows nodes ls ids from n ks links there many is order rise under h =
    let P = λ (id k : ℕ). MadeAt (store_of q) q.nodes.items (kind_under ls id) k in
    let each : (i : ℕ) → i < length ids → P (get_or ids i 0) (get_or ks i 0) =
    λ i lt.
    let t = kind_under ls (get_or ids i 0) in
    let at : get_or ks i 0 ≡ get_or a.stack.items (from + i) 0 = ap (λ (js : List ℕ). get_or js i 0) is ∙ get_or-drop from a.stack.items i 0 in
    let low : from + i < length a.stack.items = omega (arith, there, many, lt) in
    subst (MadeAt (store_of q) q.nodes.items t) (sym at) (node-kept a q grows nodes t (get_or a.stack.items (from + i) 0) (number-there a (from + i) low) (h i lt)) in
    let all = all-in_order (λ (l : Link). P l.id l.node) (map field_link (zip ids ks)) (under-links P ids ks each) in
    (under, under-all (store_of q) q.nodes.items ls links rise under (subst (AllByRecursion (λ (l : Link). P l.id l.node)) (sym order) all))

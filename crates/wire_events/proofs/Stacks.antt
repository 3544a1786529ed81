-- The open containers: those that are over give nothing, and a step of the innermost leaves what it says.
use Rattle.std.proofs.Common.{◌≡◌, ◌≢◌, ℕ, zero, suc, ◌+◌, ◌-◌, ◌<◌, ◌≤◌, List, [], ◌∷◌, ◌++◌, length, take, drop, get_or, set, Bool, true, false, if◌then◌else◌, Option, Some, None, Ok, refl, sym, ap, subst, ◌∙◌, append_assoc, length-append, arith}
use Rattle.std.specs.Prelude.{pos}
use Rattle.std.proofs.lemmas.List.{append-nil, take-append-drop, get_or-set_other, get_or-set_same, get_or_default}
use Rattle.std.proofs.Math.Seq.{drop-append_seam}
use Rattle.std.proofs.Props.{props}
use Rattle.exact_reading.proofs.Items.{ok_is}
use Rattle.compact_wire.specs.declared.kind.Kind.TheVariants as k
use Rattle.compact_wire.specs.Node.{Node, flag, i8, i16, i32, i64, double, binary, list, set as a_set, map, structure, no_nodes, node, no_pairs, Fields, no_fields, field}
use Rattle.compact_wire.specs.Reads.{items, pairs}
use Rattle.compact_wire.specs.Spells.{SpellsWire}
use Rattle.compact_wire.proofs.WireLaws.{wire, wire_exact}
use Rattle.wire_events.specs.declared.frame.Frame.{Frame}
use Rattle.wire_events.specs.declared.frame.Frame.TheVariants as f
use Rattle.wire_events.specs.declared.stepping.Step.{Step}
use Rattle.wire_events.specs.Events.{Event, events, events_in, events_in_pairs, events_in_fields, event_of}
use Rattle.wire_events.specs.Frames.{IsLeft, items_left, pairs_left, value_left, fields_left, field_value_left, Inside, Come, is_done, settle, pushed, stack_of}
use Rattle.wire_events.specs.Steps.{Kept, IsStep}
use Rattle.wire_events.proofs.Splits.{items_split, keys_split}

-- ---- containers that are over

-- no event comes, and no byte is taken
abbrev IsNothing : List Event → List ℕ → List ℕ → Type 0
IsNothing es b end = (es ≡ []) × (b ≡ end)

pub done_gives : (l : ℕ) (g : Frame) (es : List Event) (b end : List ℕ) → is_done g ≡ true → IsLeft l g es b end → IsNothing es b end
unfolding items pairs
done_gives _ _ _ _ _ over (items_left l kind zero xs b rest e) = let o = ok_is no_nodes xs b rest e in (sym (ap events_in o.0), o.1)
done_gives _ _ _ _ _ over (items_left l kind (suc n) xs b rest e) = absurd cc
done_gives _ _ _ _ _ over (pairs_left l a v zero xs b rest e) = let o = ok_is no_pairs xs b rest e in (sym (ap events_in_pairs o.0), o.1)
done_gives _ _ _ _ _ over (pairs_left l a v (suc n) xs b rest e) = absurd cc
done_gives _ _ _ _ _ over (value_left l a v n y xs b mid rest e h) = absurd cc
done_gives _ _ _ _ _ over (fields_left l before turns xs b rest e) = absurd cc
done_gives _ _ _ _ _ over (field_value_left l id ty turns x xs b mid rest e h) = absurd cc

-- what comes out of all comes out of those that are not over
pub settled_come : (a : ℕ) (gs : List Frame) (es : List Event) (b end : List ℕ) → Come a gs es b end → Come a (settle gs) es b end
settled_come a [] es b end h = h
settled_come a (g ∷ gs) es b end h = by (λ rest. settled_come a gs es b end rest) (is_done g) refl
  where
    rest : is_done g ≡ true → Come a gs es b end
    rest over =
        let none = done_gives (64 - (a + length gs)) g h.0 b h.2 over h.4 in
        let es_is : es ≡ h.1 = h.3 ∙ ap (λ (z : List Event). z ++ h.1) none.0 in
        subst (λ (z : List ℕ). Come a gs es z end) (sym none.1) (subst (λ (z : List Event). Come a gs z h.2 end) (sym es_is) h.5)

    by : (Come a gs es b end → Come a (settle gs) es b end) → (o : Bool) → is_done g ≡ o → Come a (if o then settle gs else g ∷ gs) es b end
    by behind true over = behind (rest over)
    by behind false over = h

pub settled_front : (gs : List Frame) (g : Frame) (rest : List Frame) → settle gs ≡ g ∷ rest → is_done g ≡ false
settled_front [] g rest e = absurd cc
settled_front (c ∷ gs) g rest e = by (λ is. settled_front gs g rest is) (is_done c) refl e
  where
    by : (settle gs ≡ g ∷ rest → is_done g ≡ false) → (o : Bool) → is_done c ≡ o → (if o then settle gs else c ∷ gs) ≡ g ∷ rest → is_done g ≡ false
    by behind true over is = behind is
    by behind false over is = let same : c ≡ g = cc in ap is_done (sym same) ∙ over

-- ---- the array

pub stack_set : (fs : List Frame) (d n : ℕ) (g : Frame) → n ≤ d → stack_of (set fs d g) n ≡ stack_of fs n
stack_set fs d zero g h = refl
stack_set fs d (suc n) g h =
    let other : n ≢ d = omega arith in
    ap (λ (z : Frame). z ∷ stack_of (set fs d g) n) (get_or-set_other fs d n g (f.Fields (pos 0)) other) ∙ ap (λ (zs : List Frame). get_or fs n (f.Fields (pos 0)) ∷ zs) (stack_set fs d n g (omega arith))

pub stack_push : (fs : List Frame) (d : ℕ) (g : Frame) → d < length fs → stack_of (set fs d g) (d + 1) ≡ g ∷ stack_of fs d
stack_push fs d g h =
    let one : d + 1 ≡ suc d = omega arith in
    ap (stack_of (set fs d g)) one
    ∙ ap (λ (z : Frame). z ∷ stack_of (set fs d g) d) (get_or-set_same fs d g (f.Fields (pos 0)) h)
    ∙ ap (λ (zs : List Frame). g ∷ zs) (stack_set fs d d g (omega arith))

pub length-stack : (fs : List Frame) (d : ℕ) → length (stack_of fs d) ≡ d
length-stack fs zero = refl
length-stack fs (suc d) = ap suc (length-stack fs d)

-- the last of the first d frames
pub stack_top : (fs : List Frame) (d : ℕ) (e : Frame) → 0 < d → d - 1 < length fs → stack_of fs d ≡ get_or fs (d - 1) e ∷ stack_of fs (d - 1)
stack_top fs d e h lt =
    let one : d ≡ suc (d - 1) = omega arith in
    ap (stack_of fs) one ∙ ap (λ (z : Frame). z ∷ stack_of fs (d - 1)) (get_or_default fs (d - 1) (f.Fields (pos 0)) e lt)

-- ---- one step of the innermost

abbrev pub Goes : ℕ → List Frame → List Event → Step → List ℕ → Type 0
Goes a gs es s end = (ds : List Event) × (es ≡ event_of s.event ∷ ds) × Come a gs ds s.rest.now end

kept_come : (a : ℕ) (gs : List Frame) (l : ℕ) (opened keep : Option Frame) (outs more : List Event) (mid next end : List ℕ) → l ≡ 64 - (a + length gs) → Kept l opened keep outs mid next → Come a gs more next end
    → Come a (pushed keep gs) (outs ++ more) mid end
kept_come a gs l opened None outs more mid next end e is h = subst (λ (z : List ℕ). Come a gs (outs ++ more) z end) (sym is.1) (subst (λ (z : List Event). Come a gs (z ++ more) next end) (sym is.0) h)
kept_come a gs l opened (Some g) outs more mid next end e is h = (outs, more, next, refl, subst (λ (n : ℕ). IsLeft n g outs mid next) e is, h)

opened_come : (a : ℕ) (gs : List Frame) (l : ℕ) (opened keep : Option Frame) (ins outs more : List Event) (b mid next end : List ℕ) → l ≡ 64 - (a + length gs) → Inside l opened ins b mid → Kept l opened keep outs mid next
    → Come a (pushed keep gs) (outs ++ more) mid end → Come a (pushed opened (pushed keep gs)) (ins ++ (outs ++ more)) b end
opened_come a gs l None keep ins outs more b mid next end e is kept h =
    subst (λ (z : List ℕ). Come a (pushed keep gs) (ins ++ (outs ++ more)) z end) (sym is.1) (subst (λ (z : List Event). Come a (pushed keep gs) (z ++ (outs ++ more)) mid end) (sym is.0) h)
opened_come a gs l (Some g) None ins outs more b mid next end e is kept h = absurd (let no = kept.2 in cc)
opened_come a gs l (Some g) (Some c) ins outs more b mid next end e is kept h =
    let one : l - 1 ≡ 64 - (a + suc (length gs)) = omega arith in
    (ins, outs ++ more, mid, refl, subst (λ (n : ℕ). IsLeft n g ins b mid) one is.1, h)

pub step_goes : (a : ℕ) (g : Frame) (gs : List Frame) (l : ℕ) (es : List Event) (b end : List ℕ) (s : Step) → l ≡ 64 - (a + length gs) → Come a (g ∷ gs) es b end
    → ((ins : List Event) (mid : List ℕ) → IsLeft l g ins b mid → IsStep l ins b mid s) → Goes a (pushed s.opened (pushed s.keep gs)) es s end
step_goes a g gs l es b end s e h step =
    let is = step h.0 h.2 (subst (λ (n : ℕ). IsLeft n g h.0 b h.2) (sym e) h.4) in
    let more = kept_come a gs l s.opened s.keep is.outs h.1 is.mid h.2 end e is.kept h.5 in (
      is.ins ++ (is.outs ++ h.1),
      h.3 ∙ ap (λ (z : List Event). z ++ h.1) is.parts ∙ ap (λ (z : List Event). event_of s.event ∷ z) (append_assoc is.ins is.outs h.1),
      opened_come a gs l s.opened s.keep is.ins is.outs h.1 s.rest.now is.mid h.2 end e is.opened is.kept more,
    )

-- what opens a container has a level for it
pub step_level : (l : ℕ) (ins : List Event) (b mid : List ℕ) (s : Step) (g : Frame) → IsStep l ins b mid s → s.opened ≡ Some g → 0 < l
step_level l ins b mid s g is e = by s.opened e is.opened
  where
    by : (o : Option Frame) → o ≡ Some g → Inside l o is.ins s.rest.now is.mid → 0 < l
    by None q h = absurd cc
    by (Some c) q h = h.0

-- ---- the root

pub wire_whole : (w : Node) (b : List ℕ) → SpellsWire w b → wire b ≡ Ok (w, [])
wire_whole w b is = ap wire (sym (append-nil b)) ∙ (wire_exact (suc (length (b ++ [])))).complete w b [] is (omega arith)

pub root_comes : (w : Node) (b : List ℕ) → SpellsWire w b → Come 0 (f.Items k.Struct 1 ∷ []) (events w) b []
unfolding items
root_comes w b is = (events w ++ [], [], [], sym (append-nil (events w ++ []) ∙ append-nil (events w)), items_left 64 k.Struct 1 (node w no_nodes) b [] (rw (wire_whole w b is) refl), (refl, refl))

-- ---- the cursor's next event

pub none_left : (fs : List Frame) (depth d : ℕ) (es : List Event) (b : List ℕ) → stack_of fs d ≡ settle (stack_of fs depth) → d ≡ 0 → Come 0 (stack_of fs depth) es b [] → es ≡ []
none_left fs depth d es b e over h =
    let s : settle (stack_of fs depth) ≡ [] = sym e ∙ ap (stack_of fs) over in
    (subst (λ (gs : List Frame). Come 0 gs es b []) s (settled_come 0 (stack_of fs depth) es b [] h)).0

-- the innermost that is not over, at place d - 1 of the array
module _ (fs : List Frame) (depth d : ℕ) (e : Frame) (b : List ℕ) (is : stack_of fs d ≡ settle (stack_of fs depth)) (some : d ≡ 0 → ⊥) (lt : d - 1 < length fs) where
  abbrev top : Frame
  top = get_or fs (d - 1) e

  front_is : settle (stack_of fs depth) ≡ top ∷ stack_of fs (d - 1)
  front_is = sym is ∙ stack_top fs d e (omega arith) lt

  pub top_goes_on : is_done top ≡ false
  top_goes_on = settled_front (stack_of fs depth) top (stack_of fs (d - 1)) front_is

  pub top_comes : (es : List Event) → Come 0 (stack_of fs depth) es b [] → Come 0 (top ∷ stack_of fs (d - 1)) es b []
  top_comes es h = subst (λ (gs : List Frame). Come 0 gs es b []) front_is (settled_come 0 (stack_of fs depth) es b [] h)

  -- what is left of it
  abbrev TopLeft : List Event → List ℕ → Type 0
  TopLeft ins mid = IsLeft (64 - (d - 1)) top ins b mid

  pub top_left : (es : List Event) → Come 0 (stack_of fs depth) es b [] → (ins : List Event) × (mid : List ℕ) × TopLeft ins mid
  top_left es h =
      let t = top_comes es h in
      let l : 64 - (0 + length (stack_of fs (d - 1))) ≡ 64 - (d - 1) = omega (arith, length-stack fs (d - 1)) in
      (t.0, t.2, subst (λ (n : ℕ). IsLeft n top t.0 b t.2) l t.4)

  pub top_steps : (es : List Event) (s : Step) → Come 0 (stack_of fs depth) es b [] → ((ins : List Event) (mid : List ℕ) → TopLeft ins mid → IsStep (64 - (d - 1)) ins b mid s)
      → Goes 0 (pushed s.opened (pushed s.keep (stack_of fs (d - 1)))) es s []
  top_steps es s h step =
      let l : 64 - (d - 1) ≡ 64 - (0 + length (stack_of fs (d - 1))) = omega (arith, length-stack fs (d - 1)) in
      step_goes 0 top (stack_of fs (d - 1)) (64 - (d - 1)) es b [] s l (top_comes es h) step

-- ---- a front of what is open

pub settle_front : (inner outer : List Frame) (g : Frame) (gs : List Frame) → settle inner ≡ g ∷ gs → settle (inner ++ outer) ≡ g ∷ (gs ++ outer)
settle_front [] outer g gs e = absurd cc
settle_front (c ∷ inner) outer g gs e = by (λ is. settle_front inner outer g gs is) (is_done c) e
  where
    by : (settle inner ≡ g ∷ gs → settle (inner ++ outer) ≡ g ∷ (gs ++ outer)) → (o : Bool) → (if o then settle inner else c ∷ inner) ≡ g ∷ gs → (if o then settle (inner ++ outer) else c ∷ (inner ++ outer)) ≡ g ∷ (gs ++ outer)
    by behind true is = behind is
    by behind false is = ap (λ (z : List Frame). z ++ outer) is

pub settle_none : (inner outer : List Frame) → settle (inner ++ outer) ≡ [] → settle inner ≡ []
settle_none [] outer e = refl
settle_none (c ∷ inner) outer e = by (λ is. settle_none inner outer is) (is_done c) e
  where
    by : (settle (inner ++ outer) ≡ [] → settle inner ≡ []) → (o : Bool) → (if o then settle (inner ++ outer) else c ∷ (inner ++ outer)) ≡ [] → (if o then settle inner else c ∷ inner) ≡ []
    by behind true is = behind is
    by behind false is = absurd cc

pushed_front : (opened keep : Option Frame) (gs outer : List Frame) → pushed opened (pushed keep (gs ++ outer)) ≡ pushed opened (pushed keep gs) ++ outer
pushed_front None None gs outer = refl
pushed_front None (Some c) gs outer = refl
pushed_front (Some g) None gs outer = refl
pushed_front (Some g) (Some c) gs outer = refl

-- a front of these frames, with the events that come out of it and the bytes behind them
pub record Front (stack : List Frame) (es : List Event) (b end : List ℕ) : Type 0 where
  pub inner : List Frame
  pub outer : List Frame
  pub parts : stack ≡ inner ++ outer
  pub come : Come (length outer) inner es b end

pub none_in_front : (fs : List Frame) (depth d : ℕ) (es : List Event) (b end : List ℕ) → stack_of fs d ≡ settle (stack_of fs depth) → d ≡ 0 → Front (stack_of fs depth) es b end → es ≡ []
none_in_front fs depth d es b end e over h =
    let s : settle (h.inner ++ h.outer) ≡ [] = ap settle (sym h.parts) ∙ sym e ∙ ap (stack_of fs) over in
    (subst (λ (gs : List Frame). Come (length h.outer) gs es b end) (settle_none h.inner h.outer s) (settled_come (length h.outer) h.inner es b end h.come)).0

-- the next event of the front, and what then comes
abbrev pub GoesOnIn : List Frame → List Event → Step → List ℕ → Type 0
GoesOnIn stack es s end = (ds : List Event) × (es ≡ event_of s.event ∷ ds) × Front stack ds s.rest.now end

module _ (fs : List Frame) (depth d : ℕ) (e : Frame) (b : List ℕ) (is : stack_of fs d ≡ settle (stack_of fs depth)) (some : d ≡ 0 → ⊥) (lt : d - 1 < length fs) where
  abbrev first : Frame
  first = get_or fs (d - 1) e

  settled_is : settle (stack_of fs depth) ≡ first ∷ stack_of fs (d - 1)
  settled_is = sym is ∙ stack_top fs d e (omega arith) lt

  pub front_steps : (x : Event) (es : List Event) (end : List ℕ) (s : Step) → Front (stack_of fs depth) (x ∷ es) b end → ((ins : List Event) (mid : List ℕ) → IsLeft (64 - (d - 1)) first ins b mid → IsStep (64 - (d - 1)) ins b mid s)
      → GoesOnIn (pushed s.opened (pushed s.keep (stack_of fs (d - 1)))) (x ∷ es) s end
  front_steps x es end s h step = by (settle h.inner) refl (settled_come (length h.outer) h.inner (x ∷ es) b end h.come)
    where
      by : (gs : List Frame) → settle h.inner ≡ gs → Come (length h.outer) gs (x ∷ es) b end → GoesOnIn (pushed s.opened (pushed s.keep (stack_of fs (d - 1)))) (x ∷ es) s end
      by [] q k = absurd (let no = k.0 in cc)
      by (g ∷ gs) q k =
          let all : first ∷ stack_of fs (d - 1) ≡ g ∷ (gs ++ h.outer) = sym settled_is ∙ ap settle h.parts ∙ settle_front h.inner h.outer g gs q in
          let same : first ≡ g = cc in
          let rest : stack_of fs (d - 1) ≡ gs ++ h.outer = cc in
          let size : d - 1 ≡ length gs + length h.outer = sym (length-stack fs (d - 1)) ∙ ap length rest ∙ length-append gs h.outer in
          let l : 64 - (d - 1) ≡ 64 - (length h.outer + length gs) = omega (arith, size) in
          let goes = step_goes (length h.outer) g gs (64 - (d - 1)) (x ∷ es) b end s l k (λ ins mid i. step ins mid (subst (λ (z : Frame). IsLeft (64 - (d - 1)) z ins b mid) (sym same) i)) in (
            goes.0,
            goes.1,
            record {
              inner = pushed s.opened (pushed s.keep gs);
              outer = h.outer;
              parts = ap (λ (z : List Frame). pushed s.opened (pushed s.keep z)) rest ∙ pushed_front s.opened s.keep gs h.outer;
              come = goes.2;
            },
          )

-- what a step opens is a front
opened_by : (gs : List Frame) (l : ℕ) (opened keep : Option Frame) (ins outs : List Event) (b mid end : List ℕ) → l ≡ 64 - length gs → Inside l opened ins b mid → Kept l opened keep outs mid end → Front (pushed opened (pushed keep gs)) ins b mid
opened_by gs l None keep ins outs b mid end e is kept = record { inner = []; outer = pushed keep gs; parts = refl; come = is }
opened_by gs l (Some g) None ins outs b mid end e is kept = absurd (let no = kept.2 in cc)
opened_by gs l (Some g) (Some c) ins outs b mid end e is kept =
    let one : l - 1 ≡ 64 - (suc (length gs) + 0) = omega arith in
    record { inner = g ∷ []; outer = c ∷ gs; parts = refl; come = (ins, [], mid, sym (append-nil ins), subst (λ (n : ℕ). IsLeft n g ins b mid) one is.1, (refl, refl)) }

pub opened_front : (gs : List Frame) (l : ℕ) (es : List Event) (b end : List ℕ) (s : Step) (h : IsStep l es b end s) → l ≡ 64 - length gs → Front (pushed s.opened (pushed s.keep gs)) h.ins s.rest.now h.mid
opened_front gs l es b end s h e = opened_by gs l s.opened s.keep h.ins h.outs s.rest.now h.mid end e h.opened h.kept

-- ---- where no event is left no byte is

some_events : (x : Node) → events x ≡ [] → ⊥
some_events (flag z) e = cc
some_events (i8 z) e = cc
some_events (i16 z) e = cc
some_events (i32 z) e = cc
some_events (i64 z) e = cc
some_events (double z) e = cc
some_events (binary z) e = cc
some_events (list c xs) e = cc
some_events (a_set c xs) e = cc
some_events (map a v xs) e = cc
some_events (structure xs) e = cc

first_none : (es ds : List Event) → es ++ ds ≡ [] → es ≡ []
first_none [] ds e = refl
first_none (x ∷ es) ds e = absurd cc

second_none : (es ds : List Event) → es ++ ds ≡ [] → ds ≡ []
second_none [] ds e = e
second_none (x ∷ es) ds e = absurd cc

some_fields : (xs : Fields) → events_in_fields xs ≡ [] → ⊥
some_fields no_fields e = cc
some_fields (field id x xs) e = cc

no_byte : (l : ℕ) (g : Frame) (es : List Event) (b end : List ℕ) → es ≡ [] → IsLeft l g es b end → b ≡ end
unfolding items pairs
no_byte _ _ _ _ _ none (items_left l kind zero xs b rest e) = (ok_is no_nodes xs b rest e).1
no_byte _ _ _ _ _ none (items_left l kind (suc n) xs b rest e) =
    let a = items_split l kind n (events_in xs) b rest (items_left l kind (suc n) xs b rest e) in
    absurd (some_events a.first (first_none (events a.first) a.outs (sym a.parts ∙ none)))
no_byte _ _ _ _ _ none (pairs_left l a v zero xs b rest e) = (ok_is no_pairs xs b rest e).1
no_byte _ _ _ _ _ none (pairs_left l a v (suc n) xs b rest e) =
    let s = keys_split l a v n (events_in_pairs xs) b rest (pairs_left l a v (suc n) xs b rest e) in
    absurd (some_events s.first (first_none (events s.first) s.outs (sym s.parts ∙ none)))
no_byte _ _ _ _ _ none (value_left l a v n y xs b mid rest e h) = absurd (some_events y (first_none (events y) (events_in_pairs xs) none))
no_byte _ _ _ _ _ none (fields_left l before turns xs b rest e) = absurd (some_fields xs none)
no_byte _ _ _ _ _ none (field_value_left l id ty turns x xs b mid rest e h) = absurd (some_events x (first_none (events x) (events_in_fields xs) none))

pub no_bytes : (a : ℕ) (gs : List Frame) (es : List Event) (b end : List ℕ) → es ≡ [] → Come a gs es b end → b ≡ end
no_bytes a [] es b end none h = h.1
no_bytes a (g ∷ gs) es b end none h =
    let all : h.0 ++ h.1 ≡ [] = sym h.3 ∙ none in
    no_byte (64 - (a + length gs)) g h.0 b h.2 (first_none h.0 h.1 all) h.4 ∙ no_bytes a gs h.1 h.2 end (second_none h.0 h.1 all) h.5

-- ---- where the cursor stands

pub next_within : (bytes b rest t : List ℕ) → length b ≤ length bytes → b ≡ t ++ rest → length rest ≤ length bytes
next_within bytes b rest t le e = omega (arith, ap length e, length-append t rest, le)

behind_front : (bytes s rest : List ℕ) → bytes ≡ s ++ rest → drop (length bytes - length rest) bytes ≡ rest
behind_front bytes s rest e =
    let n : length bytes - length rest ≡ length s = omega (arith, ap length e, length-append s rest) in
    ap (λ (k : ℕ). drop k bytes) n ∙ ap (drop (length s)) e ∙ drop-append_seam s rest

pub next_at_end : (bytes b rest t : List ℕ) → drop (length bytes - length b) bytes ≡ b → b ≡ t ++ rest → drop (length bytes - length rest) bytes ≡ rest
next_at_end bytes b rest t at e =
    let n : ℕ = length bytes - length b in
    let parts : bytes ≡ (take n bytes ++ t) ++ rest = sym (take-append-drop n bytes) ∙ ap (λ (z : List ℕ). take n bytes ++ z) (at ∙ e) ∙ sym (append_assoc (take n bytes) t rest) in
    behind_front bytes (take n bytes ++ t) rest parts

-- the place goes on by the event's bytes
pub next_place : (bytes b rest t : List ℕ) → length b ≤ length bytes → b ≡ t ++ rest → length bytes - length rest ≡ (length bytes - length b) + length t
next_place bytes b rest t le e = omega (arith, ap length e, length-append t rest, le)

-- where no event is left, neither is a byte
pub place_at_end : (fs : List Frame) (depth : ℕ) (es : List Event) (bytes b : List ℕ) → es ≡ [] → Come 0 (stack_of fs depth) es b [] → length bytes - length b ≡ length bytes
place_at_end fs depth es bytes b none h = let e : length b ≡ 0 = ap length (no_bytes 0 (stack_of fs depth) es b [] none h) in omega (arith, e)

pub equal_lists : (xs ys : List ℕ) → IsProp (xs ≡ ys)
equal_lists xs ys = hlevel props

pub nothing_is : IsProp ⊥
nothing_is = λ x y. absurd x

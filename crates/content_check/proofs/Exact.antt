-- What a walk over a whole content says of the content.
use Rattle.std.proofs.Common.{◌≡◌, ℕ, ◌≤◌, List, length, arith, ap, sym, ◌∙◌, None, Result, Ok, Err, IfOk}
use Rattle.std.proofs.Common.{IfErr}
use Rattle.frozen_model.specs.BitLaws.{IsBytes}
use Rattle.frozen_model.specs.Values.{Value, inline_cells, cells}
use Rattle.frozen_model.specs.Layouts.{Version, Layout, IsLayout, stride}
use Rattle.frozen_model.specs.Packing.{bytes_for}
use Rattle.frozen_model.specs.Walk.{Fault, open_content, walk}
use Rattle.frozen_laws.specs.Laws.{IsContent}
use Rattle.frozen_laws.proofs.Cells.{cells_are}
use Rattle.frozen_laws.proofs.Sound.{walk_reads}
use Rattle.frozen_laws.proofs.Opening.{where_ok, content_sound, content_complete, formed_keys, packed_length}
use Rattle.content_check.specs.declared.fault.ContentFault.{ContentFault}
use Rattle.content_check.specs.Agreeing.{fault_of}
use Rattle.content_check.specs.Steps.{IsWalked}
use Rattle.content_check.specs.Opened.{IsOpened}

abbrev value_in : Value → Result Value Fault → Value
value_in d (Ok v) = v
value_in d (Err f) = d

opened : (n : Version) (l : Layout) (bs : List ℕ) (c : ℕ) → IsLayout n l → IsBytes bs → IsWalked bs l (Ok c)
    → IsOpened bs l c
opened n l bs c is small w =
    let v = w.0 in
    let k = where_ok (open_content bs l) v (content_sound n l bs is small) w.1 in
    let room : bytes_for (stride l) ≤ length bs = omega (arith, packed_length bs k.holds.of_kind k.packed) in
    let r = where_ok (walk bs l 0 None 0 (bytes_for (stride l)) (inline_cells l)) (v, length bs, c)
    (walk_reads n bs small l is.coded is.legal (formed_keys l is.kind_tree.formed) 0 None 0
    (bytes_for (stride l)) (inline_cells l) tt (omega (arith, room)) room (omega arith)) w.2 in
    record { value = v; opened = w.1; content = k; counted = omega (arith, r.grows, cells_are r.of_kind) }

pub opens : (n : Version) (l : Layout) (bs : List ℕ) (r : Result ℕ ContentFault) → IsLayout n l → IsBytes bs
    → IsWalked bs l r → IfOk r (λ c. IsOpened bs l c)
opens n l bs (Ok c) is small w = opened n l bs c is small w
opens n l bs (Err f) is small w = tt

pub fails : (bs : List ℕ) (l : Layout) (r : Result ℕ ContentFault) → IsWalked bs l r
    → IfErr r (λ e. open_content bs l ≡ Err (fault_of e))
fails bs l (Ok c) w = tt
fails bs l (Err f) w = w

pub complete : (n : Version) (l : Layout) (bs : List ℕ) (r : Result ℕ ContentFault) → IsLayout n l
    → IsBytes bs → IsWalked bs l r → (v : Value) → IsContent l v bs → r ≡ Ok (cells l v)
complete n l bs (Ok c) is small w v h =
    let o = opened n l bs c is small w in
    let e : o.value ≡ v = ap (value_in v) (sym o.opened ∙ content_complete n l v bs is small h) in
    ap (λ k. Ok k) (o.counted ∙ ap (cells l) e)
complete n l bs (Err f) is small w v h = let e : Err (fault_of f) ≡ Ok v = sym w
    ∙ content_complete n l v bs is small h in absurd cc

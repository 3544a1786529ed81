-- What opening gave: the value of a file.
use Rattle.std.proofs.Common.{◌≡◌, ◌∙◌, ◌-◌, ℕ, List, length}
use Rattle.std.proofs.Common.{take}
use Rattle.std.proofs.Common.{Bool, true, false, ◌&&◌, Result, Ok, Err, refl, sym, ap}
use Rattle.std.proofs.Common.{subst}
use Rattle.std.proofs.Common.{nat_le}
use Rattle.std.proofs.Common.{◌⊎◌, inl, inr}
use Rattle.std.specs.Str.{bytes_eq}
use Rattle.frozen_model.specs.Values.{Value}
use Rattle.frozen_model.specs.Layouts.{Described}
use Rattle.frozen_model.specs.Walk.{Short}
use Rattle.frozen_model.specs.Walk.{open_content}
use Rattle.frozen_model.specs.Files.{FileFault, NotFrozen, BadSchema, BadContent, magic, schema_length}
use Rattle.frozen_laws.specs.Laws.{IsContent}
use Rattle.file_check.proofs.FileParts.{file_is}
use Rattle.frozen_model.specs.Files.{schema_bytes}
use Rattle.frozen_model.specs.Files.{File, content_of, demand, answered, open_file}
use Rattle.layout_tree.specs.Nodes.{layout_of}
use Rattle.layout_schema.specs.Answers.{SchemaBytes}
use Rattle.file_check.specs.declared.fault.OpenFault.{OpenFault}
use Rattle.file_check.specs.declared.fault.OpenFault.TheVariants.{NoMemory}
use Rattle.file_check.specs.declared.opened.Opened.{Opened}
use Rattle.file_check.specs.Opening.{IsFileOf, IsFirstFault}
use Rattle.frozen_cli.specs.declared.refusal.Refusal.TheVariants.{BadFile}
use Rattle.frozen_cli.specs.Opened.{read_value, value_in, value_held}
use Rattle.frozen_cli.specs.Reply.{FileStage}

-- ---- what was answered without a fault

ok_is : {X E : Type 0} (x y : X) (r : Result X E) → r ≡ Ok x → r ≡ Ok y → x ≡ y
ok_is x y r d e = cc

demand_ok : {F X : Type 0} (t : Bool) (e : FileFault F) (r : Result X (FileFault F)) (x : X)
    → demand t e r ≡ Ok x → r ≡ Ok x
demand_ok true e r x h = h
demand_ok false e r x h = absurd cc

record IsAnswered {E F X Y : Type 0} (r : Result X E) (f : X → Result Y F) (y : Y) : Type 0 where
  value : X
  was : r ≡ Ok value
  next : f value ≡ Ok y

answered_ok : {F E X Y : Type 0} (r : Result X E) (e : E → FileFault F) (f : X
    → Result Y (FileFault F)) (y : Y)
    → answered r e f ≡ Ok y → IsAnswered r f y
answered_ok (Ok x) e f y h = record { value = x; was = refl; next = h }
answered_ok (Err z) e f y h = absurd cc

-- the content of a file that is opened is opened
pub content_opens : {F : Type 0} (read : List ℕ → Result Described F) (b : List ℕ) (d : Described) (v : Value)
    → open_file read b ≡ Ok (d, v) → open_content (content_of b) d.tree ≡ Ok v
content_opens {F} read b d v h =
    let whole : Described → Result (Described × Value) (FileFault F) =
    λ e. answered (open_content (content_of b) e.tree) BadContent (λ u. Ok (e, u)) in
    let third = answered (read (schema_bytes b)) BadSchema whole in
    let a = demand_ok (nat_le 8 (length b) && bytes_eq (take 4 b) magic) NotFrozen
    (demand (nat_le (schema_length b) (length b - 8)) (BadContent Short) third) (d, v) h in
    let c = demand_ok (nat_le (schema_length b) (length b - 8)) (BadContent Short) third (d, v) a in
    let s = answered_ok (read (schema_bytes b)) BadSchema whole (d, v) c in
    let t = answered_ok (open_content (content_of b) s.value.tree) BadContent (λ u. Ok (s.value, u)) (d, v)
    s.next in
    let p : (s.value, t.value) ≡ (d, v) = ok_is (s.value, t.value) (d, v) (Ok (s.value, t.value)) refl t.next
    in
    ap (λ q. open_content (content_of b) q.0.tree) (sym p) ∙ t.was ∙ ap (λ q. Ok q.1) p

-- ---- files

-- what was opened holds the value of the file
pub file_is_held : (bytes : List ℕ) (o : Opened) → IsFileOf bytes o
    → File SchemaBytes bytes (layout_of o.layouts) (value_held o)
unfolding value_in
file_is_held bytes o f =
    let l = layout_of o.layouts in
    let opens = content_opens (λ s. f.opening.schema) bytes l f.value f.opening.opened in
    let same : value_held o ≡ f.value =
    ap (λ c. read_value (open_content c l.tree)) f.content ∙ ap read_value opens in
    subst (λ v. File SchemaBytes bytes l v) (sym same) f.file

-- and its content packs that value
pub content_held : (bytes : List ℕ) (o : Opened) → IsFileOf bytes o
    → IsContent (layout_of o.layouts).tree (value_held o) o.content.now
content_held bytes o f =
    let l = layout_of o.layouts in
    let file = file_is {S = SchemaBytes} bytes l (value_held o) (file_is_held bytes o f) in
    subst (λ c. IsContent l.tree (value_held o) c) (sym f.content) file.content

first_but : (bytes : List ℕ) (f : OpenFault) → IsFirstFault bytes f ⊎ (f ≡ NoMemory) → (f ≡ NoMemory → ⊥)
    → IsFirstFault bytes f
first_but bytes f (inl h) not = h
first_but bytes f (inr e) not = absurd (not e)

-- a fault that is no want of memory is the first of the bytes, and they are no value's frozen file
pub file_refused : (bytes : List ℕ) (f : OpenFault) → (f ≡ NoMemory → ⊥)
    → IsFirstFault bytes f ⊎ (f ≡ NoMemory)
    → ((d : Described) (v : Value) → File SchemaBytes bytes d v → f ≡ NoMemory)
    → FileStage bytes (Err (BadFile f))
file_refused bytes f not first every = (f, first_but bytes f first not, (λ d v h. not (every d v h)), refl)

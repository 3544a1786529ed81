-- What opening the frozen file of a value gives.
use Rattle.std.proofs.Common.{◌≡◌, ◌∙◌, ◌+◌, ◌<◌, ◌^◌, ℕ, List, true, length}
use Rattle.std.proofs.Common.{sym, ap, subst, arith}
use Rattle.std.proofs.Common.{length-append}
use Rattle.idl_profile.specs.Types.{Named, root_of}
use Rattle.type_kinds.specs.KindsOf.{kinds_of}
use Rattle.frozen_model.specs.Trees.{KindTree, kinds}
use Rattle.frozen_model.specs.Values.{Value}
use Rattle.frozen_model.specs.Layouts.{Version2, Described}
use Rattle.frozen_model.specs.Packing.{packed}
use Rattle.frozen_model.specs.Holding.{Least}
use Rattle.frozen_model.specs.Files.{File, content_of}
use Rattle.frozen_laws.specs.Laws.{IsContent}
use Rattle.frozen_laws.proofs.Cells.{whole_cells}
use Rattle.frozen_laws.proofs.Opening.{packed_length}
use Rattle.frozen_laws.proofs.Packed.{packed_packs}
use Rattle.layout_schema.specs.Answers.{SchemaBytes}
use Rattle.layout_schema.specs.Laws.{SchemasAreShort}
use Rattle.file_check.specs.Written.{written}
use Rattle.file_check.proofs.FileParts.{file_is}
use Rattle.frozen_file.specs.FrozenFile.{IsLeastFile, IsFrozenFile}
use Rattle.demo_table.specs.Laws.{OwnFileIsShort}

-- a layout and a content are those of the value's own file
pub record IsOwn (d : List Named) (v : Value) (l : Described) (content : List ℕ) : Type 0 where
  pub root : kinds_of (root_of d) ≡ kinds l.tree
  pub version : l.version ≡ Version2
  pub relaxed : l.relaxed ≡ true
  pub least : Least l v
  pub is : IsContent l.tree v content

pub opened_own : (d : List Named) (v : Value) (b bytes content : List ℕ) (l : Described) → IsFrozenFile d v b
    → bytes ≡ b → ((e : Described) (u : Value) → File SchemaBytes bytes e u → l ≡ e)
    → content ≡ content_of bytes → IsOwn d v l content
opened_own d v b bytes content l f same layout is =
    let file = subst (λ s. File SchemaBytes s f.layout v) (sym same) f.file in
    let e : f.layout ≡ l = sym (layout f.layout v file) in
    let parts = file_is {S = SchemaBytes} bytes f.layout v file in
    subst (λ m. IsOwn d v m content) e (record {
      root = sym f.root;
      version = f.version;
      relaxed = f.relaxed;
      least = f.least;
      is = subst (λ c. IsContent f.layout.tree v c) (sym is) parts.content;
    })

-- ---- the length of a file

-- a schema that is short has room in the header for its length
pub room_for : (s : List ℕ) → length s < 2 ^ 20 → length s < 2 ^ 32
room_for s h = omega (arith, h)

pub short_file : SchemasAreShort → (k : KindTree) (v : Value) (bytes : List ℕ) → IsLeastFile k v bytes
    → length bytes < 2 ^ 30
short_file law k v bytes f =
    let l = f.layout in
    let o = f.file.holds.of_kind in
    let schema : length (written l) < 2 ^ 20 = law l f.least.is_layout in
    let content = packed_length (packed l.tree v) o (packed_packs o) in
    let whole = whole_cells l.tree v o f.least.is_layout.layout.legal in
    let long : length bytes ≡ 8 + (length (written l) + length (packed l.tree v)) =
    ap length f.spelled ∙ simp length-append (omega arith) in
    omega (arith, long, schema, content, whole, f.file.within)

pub small_file : OwnFileIsShort → (d : List Named) (v : Value) (b bytes : List ℕ) → IsFrozenFile d v b
    → bytes ≡ b → length bytes < 2 ^ 56
small_file law d v b bytes f same = omega (arith, ap length same, law (kinds_of (root_of d)) v b f)

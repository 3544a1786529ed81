-- A file by its parts.
use Rattle.std.proofs.Common.{◌≡◌, ℕ, ◌+◌, ◌-◌, ◌≤◌, ◌<◌, List, [], ◌∷◌, ◌++◌, zero, suc, true, length, arith}
use Rattle.std.proofs.Common.{refl, ap, sym, ◌∙◌, subst, nat_le, take, drop, length-append, length-take}
use Rattle.std.proofs.Common.{length-drop}
use Rattle.std.proofs.lemmas.List.{take-append-drop, drop-drop, get_or-drop}
use Rattle.std.proofs.Math.Seq.{take-append_seam, drop-append_seam}
use Rattle.std.proofs.lemmas.Bool.{and_parts, and_from, le-leb}
use Rattle.std.specs.Str.{bytes_eq}
use Rattle.std.proofs.lemmas.Slice.Eq.{bytes_eq-Decides}
use Rattle.frozen_model.specs.Bits.{number}
use Rattle.frozen_model.specs.BitLaws.{IsBytes}
use Rattle.frozen_model.specs.Values.{Value}
use Rattle.frozen_model.specs.Layouts.{Described}
use Rattle.frozen_model.specs.Files.{magic, schema_length, schema_bytes, content_of, File}
use Rattle.frozen_laws.specs.Laws.{IsContent}
use Rattle.frozen_laws.proofs.Reading.{from_le}
use Rattle.file_check.specs.Parts.{has_header, has_schema}

-- what the bytes of a file are, part by part
pub record IsFile (S : List ℕ → Described → Type 0) (b : List ℕ) (d : Described) (v : Value) : Type 0 where
  pub schema : has_schema b ≡ true
  pub spelled : S (schema_bytes b) d
  pub content : IsContent d.tree v (content_of b)

-- ---- a file has these parts

record Parts (b schema content : List ℕ) : Type 0 where
  pub there : has_schema b ≡ true
  pub schema_is : schema_bytes b ≡ schema
  pub content_is : content_of b ≡ content

joined_parts : (size schema content : List ℕ) → length size ≡ 4 → number size ≡ length schema
    → Parts (magic ++ (size ++ (schema ++ content))) schema content
joined_parts size schema content four sized =
    let rest = schema ++ content in
    let b = magic ++ (size ++ rest) in
    let long : length b ≡ 8 + (length schema + length content) = simp length-append (omega (arith, four)) in
    let size_is : take 4 (drop 4 b) ≡ size = ap (λ k. take k (size ++ rest)) (sym four)
    ∙ take-append_seam size rest in
    let number_is : schema_length b ≡ length schema = ap number size_is ∙ sized in
    let behind : drop 8 b ≡ rest = ap (λ k. drop k (size ++ rest)) (sym four) ∙ drop-append_seam size rest in
    record {
      there = and_from (has_header b) (nat_le (schema_length b) (length b - 8))
          (and_from (nat_le 8 (length b)) (bytes_eq (take 4 b) magic)
          (le-leb 8 (length b) (omega arith)) refl)
          (le-leb (schema_length b) (length b - 8) (omega arith));
      schema_is = ap (λ k. take k (drop 8 b)) number_is ∙ ap (take (length schema)) behind
          ∙ take-append_seam schema content;
      content_is = ap (λ k. drop k (drop 8 b)) number_is ∙ ap (drop (length schema)) behind
          ∙ drop-append_seam schema content;
    }

pub file_is : {S : List ℕ → Described → Type 0} (b : List ℕ) (d : Described) (v : Value) → File S b d v
    → IsFile S b d v
file_is {S} b d v h =
    let p = subst (λ c. Parts c h.schema h.content) (sym h.joined)
    (joined_parts h.size h.schema h.content h.four h.sized) in
    record {
      schema = p.there;
      spelled = subst (λ s. S s d) (sym p.schema_is) h.spelled;
      content = subst (λ c. IsContent d.tree v c) (sym p.content_is)
          (record { holds = h.holds; within = h.within; packed = h.packed });
    }

-- ---- and what has these parts is a file

four_and_rest : (b : List ℕ) (n : ℕ) → take 4 b ≡ magic
    → b ≡ magic ++ (take 4 (drop 4 b) ++ (take n (drop 8 b) ++ drop n (drop 8 b)))
four_and_rest b n start =
    sym (take-append-drop 4 b) ∙ ap (λ r. r ++ drop 4 b) start
    ∙ ap (λ r. magic ++ r) (sym (take-append-drop 4 (drop 4 b))
    ∙ ap (λ r. take 4 (drop 4 b) ++ r) (drop-drop 4 4 b ∙ sym (take-append-drop n (drop 8 b))))

pub is_file : {S : List ℕ → Described → Type 0} (b : List ℕ) (d : Described) (v : Value) → IsFile S b d v
    → File S b d v
is_file b d v h =
    let whole = and_parts (has_header b) (nat_le (schema_length b) (length b - 8)) h.schema in
    let header = and_parts (nat_le 8 (length b)) (bytes_eq (take 4 b) magic) whole.0 in
    let eight : 8 ≤ length b = from_le 8 (length b) header.0 in
    let enough : schema_length b ≤ length b - 8 = from_le (schema_length b) (length b - 8) whole.1 in
    let start : take 4 b ≡ magic = (bytes_eq-Decides (take 4 b) magic).0 header.1 in
    let n = schema_length b in
    record {
      size = take 4 (drop 4 b);
      schema = schema_bytes b;
      content = content_of b;
      joined = four_and_rest b n start;
      four = omega (arith, length-take 4 (drop 4 b), length-drop 4 b);
      sized = omega (arith, length-take n (drop 8 b), length-drop 8 b);
      spelled = h.spelled;
      holds = h.content.holds;
      within = h.content.within;
      packed = h.content.packed;
    }

-- the content is of bytes
bytes_after : (n : ℕ) (b : List ℕ) → IsBytes b → IsBytes (drop n b)
bytes_after n b h k = subst (λ x. x < 256) (sym (get_or-drop n b k 0)) (h (n + k))

pub content_bytes : (b : List ℕ) → IsBytes b → IsBytes (content_of b)
content_bytes b h = bytes_after (schema_length b) (drop 8 b) (bytes_after 8 b h)

-- and so is the schema
bytes_before : (n : ℕ) (b : List ℕ) → IsBytes b → IsBytes (take n b)
bytes_before zero b h k = omega arith
bytes_before (suc n) [] h k = omega arith
bytes_before (suc n) (x ∷ b) h zero = h 0
bytes_before (suc n) (x ∷ b) h (suc k) = bytes_before n b (λ j. h (suc j)) k

pub schema_is_bytes : (b : List ℕ) → IsBytes b → IsBytes (schema_bytes b)
schema_is_bytes b h = bytes_before (schema_length b) (drop 8 b) (bytes_after 8 b h)

-- An enum and the index of its members.
use Rattle.std.proofs.Common.{◌≡◌, ℕ, ◌<◌, List, length, ap, ◌∙◌, arith}
use Rattle.std.specs.Prelude.{Some, option_map, slice_get}
use Rattle.std.specs.List.{AllZip}
use Rattle.std.proofs.lemmas.List.{length-map}
use Rattle.std.proofs.lemmas.Option.{slice_get-map}
use Rattle.std.proofs.lemmas.Slice.Zip.{AllZip-long, AllZip-right}
use Rattle.name_index.specs.declared.index.NameIndex.{NameIndex}
use Rattle.idl_fields.specs.declared.draft.DraftNamed.{DraftNamed}
use Rattle.idl_profile.specs.Meaning.{Ty}
use Rattle.idl_fields.specs.View.{named_of, nameds_of}
use Rattle.idl_fields.specs.Indexed.{IndexesNamed}

pub view_at : (text : List ℕ) (ts : List Ty) (ns : List DraftNamed) (n : ℕ) (one : DraftNamed) → slice_get ns n ≡ Some one → slice_get (nameds_of text ts ns) n ≡ Some (named_of text ts one)
view_at text ts ns n one e = slice_get-map (named_of text ts) ns n ∙ ap (option_map (named_of text ts)) e

pub has_index : (text : List ℕ) (ts : List Ty) (is : List NameIndex) (ns : List DraftNamed) (n : ℕ) → AllZip IndexesNamed is (nameds_of text ts ns) → n < length ns → n < length is
has_index text ts is ns n h l = omega (arith, AllZip-long IndexesNamed is (nameds_of text ts ns) h, length-map ns (named_of text ts))

pub index_at : (text : List ℕ) (ts : List Ty) (is : List NameIndex) (ns : List DraftNamed) (n : ℕ) (index : NameIndex) (one : DraftNamed) → AllZip IndexesNamed is (nameds_of text ts ns) → slice_get ns n ≡ Some one → slice_get is n ≡ Some index
    → IndexesNamed index (named_of text ts one)
index_at text ts is ns n index one h e f =
    let k = AllZip-right IndexesNamed is (nameds_of text ts ns) h n in
    rw (view_at text ts ns n one e, f) at k

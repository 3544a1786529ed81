-- One more enum or struct, with its name and the index of its members.
use Rattle.std.proofs.Common.{◌≡◌, ℕ, List, [], ◌∷◌, ◌++◌, Result, Ok, Err, ap, ap₂, ◌∙◌}
use Rattle.std.specs.Prelude.{OnOk}
use Rattle.std.specs.List.{AllZip}
use Rattle.std.proofs.lemmas.List.{map-append}
use Rattle.std.proofs.lemmas.Slice.Zip.{all_zipped_more}
use Rattle.name_index.specs.declared.index.NameIndex.{NameIndex}
use Rattle.base_lists.specs.declared.span.Span.{Span}
use Rattle.base_lists.specs.Spans.{text_at}
use Rattle.idl_grammar.specs.declared.fault.LineFault.{LineFault}
use Rattle.exact_reading.specs.declared.stop.ReadError.{ReadError}
use Rattle.idl_profile.specs.Meaning as m
use Rattle.idl_fields.specs.declared.draft.Entry.{Entry}
use Rattle.idl_fields.specs.declared.draft.TypeNode.{TypeNode}
use Rattle.idl_fields.specs.Nodes.{node_type}
use Rattle.idl_fields.specs.declared.draft.DraftNamed.{DraftNamed}
use Rattle.idl_fields.specs.declared.scope.Scope.{Scope}
use Rattle.idl_fields.specs.View.{types_in, entry_of, entries_of, entries_in, named_of, nameds_of, named_in, scope_of}
use Rattle.idl_fields.specs.Indexed.{IndexesNamed}
use Rattle.idl_definitions.specs.Items.{entry}

make : List m.Entry → List m.MeantNamed → m.Scope
make es ns = record { entries = es; named = ns }

nameds_push : (text : List ℕ) (ts : List m.Ty) (ns ms : List DraftNamed) (one : DraftNamed) → ms ≡ ns ++ one ∷ [] → nameds_of text ts ms ≡ nameds_of text ts ns ++ named_of text ts one ∷ []
nameds_push text ts ns ms one e = ap (nameds_of text ts) e ∙ map-append (named_of text ts) ns (one ∷ [])

-- an enum or a struct and its name, behind the types that it is made of
pub added : (text : List ℕ) (r : Result (Unit {0}) (ReadError LineFault)) (old start mid new : Scope) (one : DraftNamed) (w : Span) (t : TypeNode) (ty : m.Ty)
    → entries_in text start ≡ entries_in text old → named_in text start ≡ named_in text old → node_type (types_in start.types) t ≡ ty
    → mid.named.items ≡ start.named.items ++ one ∷ [] → mid.entries ≡ start.entries → mid.types ≡ start.types → new.named ≡ mid.named → new.types ≡ mid.types
    → OnOk r (new.entries.items ≡ mid.entries.items ++ entry w t ∷ [])
    → OnOk r (scope_of text new ≡ record { entries = entries_in text old ++ record { name = text_at text w; type = ty } ∷ []; named = named_in text old ++ named_of text (types_in start.types) one ∷ [] })
unfolding make
added text (Err e) old start mid new one w t ty es ns is pushed kept types same stay more = tt
added text (Ok u) old start mid new one w t ty es ns is pushed kept types same stay more =
    let ts = types_in start.types in
    let now : types_in new.types ≡ ts = ap types_in (stay ∙ types) in
    ap₂ make
    (ap₂ (λ (zs : List m.Ty) (xs : List Entry). entries_of text zs xs) now (more ∙ ap (λ v. v.items ++ entry w t ∷ []) kept) ∙ map-append (entry_of text ts) start.entries.items (entry w t ∷ [])
    ∙ ap₂ (λ (xs : List m.Entry) (z : m.Ty). xs ++ record { name = text_at text w; type = z } ∷ []) es is)
    (ap₂ (λ (zs : List m.Ty) v. nameds_of text zs v.items) now same ∙ nameds_push text ts start.named.items mid.named.items one pushed ∙ ap (λ (xs : List m.MeantNamed). xs ++ named_of text ts one ∷ []) ns)

-- the name of a type
pub aliased : (text : List ℕ) (r : Result (Unit {0}) (ReadError LineFault)) (old start new : Scope) (w : Span) (t : TypeNode) (ty : m.Ty)
    → entries_in text start ≡ entries_in text old → named_in text start ≡ named_in text old → node_type (types_in start.types) t ≡ ty
    → new.named ≡ start.named → new.types ≡ start.types → OnOk r (new.entries.items ≡ start.entries.items ++ entry w t ∷ [])
    → OnOk r (scope_of text new ≡ record { entries = entries_in text old ++ record { name = text_at text w; type = ty } ∷ []; named = named_in text old })
unfolding make
aliased text (Err e) old start new w t ty es ns is same stay more = tt
aliased text (Ok u) old start new w t ty es ns is same stay more =
    let ts = types_in start.types in
    let now : types_in new.types ≡ ts = ap types_in stay in
    ap₂ make
    (ap₂ (λ (zs : List m.Ty) (xs : List Entry). entries_of text zs xs) now more ∙ map-append (entry_of text ts) start.entries.items (entry w t ∷ [])
    ∙ ap₂ (λ (xs : List m.Entry) (z : m.Ty). xs ++ record { name = text_at text w; type = z } ∷ []) es is)
    (ap₂ (λ (zs : List m.Ty) v. nameds_of text zs v.items) now same ∙ ns)

pub indexes_push : (text : List ℕ) (ts : List m.Ty) (is js : List NameIndex) (ns ms : List DraftNamed) (index : NameIndex) (one : DraftNamed) → js ≡ is ++ index ∷ [] → ms ≡ ns ++ one ∷ []
    → AllZip IndexesNamed is (nameds_of text ts ns) → IndexesNamed index (named_of text ts one) → AllZip IndexesNamed js (nameds_of text ts ms)
indexes_push text ts is js ns ms index one e f h k =
    rw (e, nameds_push text ts ns ms one f) (all_zipped_more IndexesNamed is (nameds_of text ts ns) index (named_of text ts one) h k)

use Rattle.std.proofs.Common.{◌≡◌, drop, length, ℕ, List}
use Rattle.idl_fields.specs.declared.draft.DraftNamed.{DraftNamed}
use Rattle.idl_parse.specs.Roots.{last_place}
use Rattle.idl_parse.proofs.root.last_place.Given as goal

pub record Going (place last index : ℕ) (named : List DraftNamed) : Type 0 where
  pub same : last_place place last (drop index named) ≡ last_place 0 (length named) named
  pub count : place ≡ index

abbrev pub invariant-loop-one : goal.invariant-loop-one
invariant-loop-one l = Going l.place l.last l.one-index l.named

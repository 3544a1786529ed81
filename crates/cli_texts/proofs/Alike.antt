-- The lines of what a `Layouts` shows are those of its layout: widths that are noted do not matter, nor do
-- bases where there are none.
use Rattle.std.proofs.Common.{◌≡◌, ℕ, zero, suc, List, [], ◌∷◌, ◌++◌, refl, ap, sym, ◌∙◌, map}
use Rattle.frozen_model.specs.Layouts.{Version, Version1, Version2}
use Rattle.layout_tree.specs.declared.node.NodeSpec.{NodeSpec}
use Rattle.layout_tree.specs.declared.node.Kind.{Kind}
use Rattle.layout_tree.specs.Listing.{Noted, layout_in, nodes_of}
use Rattle.layout_tree.specs.Given.{shown, noted_from}
use Rattle.layout_tree.specs.Reading.{whole_kind}
use Rattle.layout_schema.proofs.Alike.{plain, twice, same_plain}
use Rattle.cli_texts.specs.Listing.{column, base_column, line, lines}

plain_column : (v : Version) (x : NodeSpec) → base_column v (plain v x) ≡ base_column v (shown x)
plain_column Version1 x = refl
plain_column Version2 x = ap column (twice (whole_kind x.kind) x.base)

plain_line : (v : Version) (n : ℕ) (x : NodeSpec) → line v n (plain v x) ≡ line v n (shown x)
plain_line v zero x = let e = plain_column v x in rw e refl
plain_line v (suc n) x = let e = plain_column v x in rw e refl

plain_lines : (v : Version) (n : ℕ) (xs : List NodeSpec)
    → lines v n (map (plain v) xs) ≡ lines v n (map shown xs)
plain_lines v n [] = refl
plain_lines v n (x ∷ xs) =
    ap (λ r. r ++ lines v (suc n) (map (plain v) xs)) (plain_line v n x)
    ∙ ap (λ r. line v n (shown x) ++ r) (plain_lines v (suc n) xs)

-- the lines of a layout, whatever widths are noted
pub same_lines : (v : Version) (t : Noted) (sk : Kind) (i p f o : ℕ)
    → lines v i (map shown (nodes_of t sk i p f o))
    ≡ lines v i (map shown (nodes_of (noted_from (layout_in v t)) sk i p f o))
same_lines v t sk i p f o =
    sym (plain_lines v i (nodes_of t sk i p f o)) ∙ ap (lines v i) (same_plain v t sk i p f o)
    ∙ plain_lines v i (nodes_of (noted_from (layout_in v t)) sk i p f o)

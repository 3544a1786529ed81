-- What was frozen thaws to the canonical spelling of its value, and to nothing else.
use Rattle.std.proofs.Common.{◌≡◌, ◌∙◌, ◌≤◌, ◌^◌, ℕ, List, [], length, None, Some, Option, Result, Ok, Err}
use Rattle.std.proofs.Common.{inl, inr, refl, sym, ap, subst, arith}
use Rattle.fz_base.specs.Files.{Held}
use Rattle.idl_profile.specs.Types.{Named, root_of}
use Rattle.idl_parse.specs.declared.fault.DefFault.{DefFault}
use Rattle.idl_parse.specs.Parsed.{DefText, FirstFault}
use Rattle.type_kinds.specs.KindsOf.{kinds_of}
use Rattle.frozen_model.specs.Values.{Value, cells, cell_limit}
use Rattle.frozen_model.specs.Layouts.{Described}
use Rattle.compact_wire.specs.Canon.{canon}
use Rattle.compact_codec.specs.Wire.{wire}
use Rattle.frozen_file.specs.FrozenFile.{IsFrozenFile}
use Rattle.evolve.specs.Laws.{BindingHasOneAnswer}
use Rattle.demo_table.specs.Laws.{OwnFileIsShort, OwnFileIsRead}
use Rattle.frozen_cli.specs.declared.refusal.Role.{Role}
use Rattle.frozen_cli.specs.declared.refusal.Role.TheVariants.{Definition, File as FileRole}
use Rattle.frozen_cli.specs.declared.refusal.Refusal.{Refusal}
use Rattle.frozen_cli.specs.Refusal.{IsUnreadable}
use Rattle.frozen_cli.specs.Stages.{ReadStage}
use Rattle.frozen_cli.specs.Reply.{DefinitionIn, Thaws, Under, OpenedUnder, FileUnder}
use Rattle.frozen_cli.specs.Reply.{FileStage, FormGives, thaw, whole}
use Rattle.frozen_cli.specs.Laws.{WritesIfRead, FrozenThaws}

-- ---- a file that was read

same_read : (role : Role) (limit : ℕ) (held : Option (List ℕ)) (a b : List ℕ)
    → ReadStage role limit held (Ok a) → ReadStage role limit held (Ok b) → a ≡ b
same_read role limit None a b p q = absurd p
same_read role limit (Some file) a b p q = p.0 ∙ sym q.0

only_unreadable : (role : Role) (limit : ℕ) (held : Option (List ℕ)) (a : List ℕ) (r : Refusal)
    → ReadStage role limit held (Ok a) → ReadStage role limit held (Err r) → IsUnreadable r
only_unreadable role limit None a r p q = absurd p
only_unreadable role limit (Some file) a r p (inl q) = absurd (omega (arith, p.1, q.0))
only_unreadable role limit (Some file) a r p (inr q) = subst IsUnreadable (sym q) tt

-- ---- a definition that was read

-- a text means one definition, and has a fault or means one
abbrev OneDefinition : Type 0
OneDefinition = (text : List ℕ) (c d : List Named) → DefText text c → DefText text d → c ≡ d

abbrev NotBoth : Type 0
NotBoth = (text : List ℕ) (d : List Named) (e : DefFault) → DefText text d → FirstFault text e → ⊥

same_definition : OneDefinition → (held : Option (List ℕ)) (c d : List Named) → DefinitionIn held (Ok c)
    → DefinitionIn held (Ok d) → c ≡ d
same_definition one held c d p q =
    let same = same_read Definition (2 ^ 20) held p.0 q.0 p.1 q.1 in
    one q.0 c d (subst (λ t. DefText t c) same p.2) q.2

definition_refused : NotBoth → (held : Option (List ℕ)) (d : List Named) (r : Refusal) → DefinitionIn held (Ok d)
    → DefinitionIn held (Err r) → IsUnreadable r
definition_refused not_both held d r p (inl q) = only_unreadable Definition (2 ^ 20) held p.0 r p.1 q
definition_refused not_both held d r p (inr q) =
    let same = same_read Definition (2 ^ 20) held p.0 q.0 p.1 q.1 in
    absurd (not_both q.0 d q.2.0 (subst (λ t. DefText t d) same p.2) q.2.1)

-- ---- the stages behind them

abbrev output : Result (List ℕ) Refusal → List ℕ
output (Ok out) = out
output (Err r) = []

module _ (short : OwnFileIsShort) (reads : OwnFileIsRead) (binding : BindingHasOneAnswer) (text : List ℕ)
    (d : List Named) (v : Value) (bytes : List ℕ) (is : DefText text d) (f : IsFrozenFile d v bytes) where
  abbrev spelled : Value → List ℕ
  spelled u = canon (wire (root_of d) u)

  thaws_ok : (out : List ℕ) (u : Value) → u ≡ v → Thaws (root_of d) u (Ok out) → out ≡ spelled v
  thaws_ok out u same x = ap output x.2 ∙ ap spelled (x.1.0 ∙ same)

  thaws_err : (r : Refusal) (u : Value) → u ≡ v → cells (kinds_of (root_of d)) v ≤ cell_limit
      → Thaws (root_of d) u (Err r) → ⊥
  thaws_err r u same few (inl x) = omega (arith, x.0, few, ap (cells (kinds_of (root_of d))) same)
  thaws_err r u same few (inr x) = let e = x.2 in cc

  bound_err : (r : Refusal) (o : Described × Value) → FileStage bytes (Ok o) → Under whole d o (Err r) → ⊥
  bound_err r o file (inl x) =
      let none = (binding o.0 (root_of d)).0 (reads text d v bytes is f o.0 o.1 file).0 in
      let some = x.1 in
      cc
  bound_err r o file (inr x) =
      let held = reads text d v bytes is f o.0 o.1 file in
      thaws_err r x.0 (x.1.1 ∙ held.1) held.2 x.2

  opened_gives : (r : Result (List ℕ) Refusal) → OpenedUnder whole d bytes r → WritesIfRead (spelled v) r
  opened_gives (Ok out) x =
      let held = reads text d v bytes is f x.0.0 x.0.1 x.1 in
      thaws_ok out x.2.0 (x.2.1.1 ∙ held.1) x.2.2
  opened_gives (Err r) (inl x) = absurd (x.2 f.layout v f.file)
  opened_gives (Err r) (inr x) = absurd (bound_err r x.0 x.1 x.2)

  file_gives : (r : Result (List ℕ) Refusal) → FileUnder whole d (Some bytes) r → WritesIfRead (spelled v) r
  file_gives (Ok out) x = opened_gives (Ok out) (subst (λ b. OpenedUnder whole d b (Ok out)) x.1.0 x.2)
  file_gives (Err r) (inl x) =
      only_unreadable FileRole (2 ^ 30) (Some bytes) bytes r (refl, room) x
    where
      room : length bytes ≤ 2 ^ 30
      room = omega (arith, short (kinds_of (root_of d)) v bytes f)
  file_gives (Err r) (inr x) = opened_gives (Err r) (subst (λ b. OpenedUnder whole d b (Err r)) x.1.0 x.2)

  given_file : FileUnder whole d (Some bytes) (Ok (spelled v))
  given_file =
      let held = reads text d v bytes is f f.layout v f.file in
      let room : length bytes ≤ 2 ^ 30 = omega (arith, short (kinds_of (root_of d)) v bytes f) in
      let opened : Described × Value = (f.layout, v) in
      let thawed : Thaws (root_of d) v (Ok (spelled v)) = (v, (refl, held.2), refl) in
      let bound : Under whole d opened (Ok (spelled v)) = (v, (held.0, sym held.1), thawed) in
      (bytes, (refl, room), (opened, f.file, bound))

-- ---- the whole

module _ (one : OneDefinition) (not_both : NotBoth) (short : OwnFileIsShort) (reads : OwnFileIsRead)
    (binding : BindingHasOneAnswer) where
  thaw_gives : (held : Held) (def file text : List ℕ) (d : List Named) (v : Value) (bytes : List ℕ)
      → DefText text d → IsFrozenFile d v bytes → DefinitionIn (held def) (Ok d) → held file ≡ Some bytes
      → (r : Result (List ℕ) Refusal) → FormGives held (thaw def file) r
      → WritesIfRead (canon (wire (root_of d) v)) r
  thaw_gives held def file text d v bytes is f means kept (Ok out) x =
      let same = same_definition one (held def) x.0 d x.1 means in
      let under = subst (λ e. FileUnder whole e (held file) (Ok out)) same x.2 in
      file_gives short reads binding text d v bytes is f (Ok out)
      (subst (λ o. FileUnder whole d o (Ok out)) kept under)
  thaw_gives held def file text d v bytes is f means kept (Err r) (inl x) =
      definition_refused not_both (held def) d r means x
  thaw_gives held def file text d v bytes is f means kept (Err r) (inr x) =
      let same = same_definition one (held def) x.0 d x.1 means in
      let under = subst (λ e. FileUnder whole e (held file) (Err r)) same x.2 in
      file_gives short reads binding text d v bytes is f (Err r)
      (subst (λ o. FileUnder whole d o (Err r)) kept under)

  pub frozen_thaws : FrozenThaws
  frozen_thaws held def value file bytes x kept =
      let d = x.0 in
      let means = x.1 in
      let v = x.2.0 in
      let f = x.2.2 in
      record {
        definition = d;
        frozen = v;
        means = means;
        spelled = x.2.1;
        gives = (
          d,
          means,
          subst (λ o. FileUnder whole d o (Ok (canon (wire (root_of d) v)))) (sym kept)
              (given_file short reads binding means.0 d v bytes means.2 f),
        );
        only = thaw_gives held def file means.0 d v bytes means.2 f means kept;
      }

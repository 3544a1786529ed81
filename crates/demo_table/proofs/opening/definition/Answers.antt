use Rattle.std.proofs.Common.{◌≡◌, rules, subst, sym, arith}
use Rattle.idl_parse.specs.Parsed.{DefText, definition_of}
use Rattle.root_kinds.proofs.ShortTexts.{root_is_short}
use Rattle.cli_texts.specs.Demos.{demo_definition}
use Rattle.idl_parse.specs.declared.fault.DefFault.TheVariants.{NoMemory}
use Rattle.demo_table.proofs.opening.definition.Goals as goal

pub unreachable-requires : goal.unreachable-requires
unreachable-requires c =
    let not : c.in-Err.field-0 ≡ NoMemory → ⊥ = search rules in
    not (c.in-Err.ensures.every_text demo_definition
    (subst (λ b. DefText b demo_definition) (sym c.as_bytes.ensures.value) c.demo_def_means_the_demo.ensures))

pub returns-in-Ok-clause-demo : goal.returns-in-Ok-clause-demo
returns-in-Ok-clause-demo c =
    c.in-Ok.ensures.every_text demo_definition
    (subst (λ b. DefText b demo_definition) (sym c.as_bytes.ensures.value) c.demo_def_means_the_demo.ensures)

pub returns-in-Ok-clause-short : goal.returns-in-Ok-clause-short
returns-in-Ok-clause-short c =
    root_is_short c.as_bytes.result.now (definition_of c.in-Ok.def) c.in-Ok.ensures.means
    (omega (arith, c.as_bytes.ensures.len))

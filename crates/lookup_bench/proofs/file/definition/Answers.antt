use Rattle.std.proofs.Common.{sym, subst}
use Rattle.idl_parse.specs.Parsed.{DefText}
use Rattle.cli_texts.specs.Demos.{demo_definition}
use Rattle.lookup_bench.proofs.file.definition.Goals as goal

pub returns : goal.returns
returns c =
    c.in_ok-parse.ensures.every_text demo_definition
    (subst (λ b. DefText b demo_definition) (sym c.as_bytes-text.ensures.value)
    c.demo_def_means_the_demo.ensures)

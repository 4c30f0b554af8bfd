-- Lemmas on lowered.
use Rattle.std.proofs.Common.{ℕ, List}
use Rattle.std.specs.Prelude.{None, map}
use Rattle.pass_cleanup.specs.Cleanup.{clean_function, clean_module}
use Rattle.pass_split.specs.Parts.{split_functions, split_module}
use Rattle.pass_early.specs.Early.{early_module}
use Rattle.frame_layout.specs.declared.layout.Layouts.{Layouts}
use Rattle.pass_proofs.specs.rule_all.Refused.{IsRefused}
use Rattle.pass_proofs.specs.text_grammar.Text.{StandsFor}
use Rattle.ir_model.specs.declared.module.Module.{Module}
use Rattle.pass_proofs.specs.rule_names.declared.stage.Stage.{Stage}
use Rattle.pass_frames.specs.Framed.{IsFramedForm}
use Rattle.pass_proofs.proofs.ir_laws.facts.Members.{at_each, each_there}
use Rattle.pass_proofs.proofs.frames.unnamed.Positions.{stands_as}
use Rattle.pass_proofs.proofs.rule_laws.rules.names_apart.Sources.{source_tables}
use Rattle.pass_proofs.proofs.split.names_apart.Split.{IsApart, functions_apart}
use Rattle.compiler.proofs.cleanup.names.Split.{clean_apart}
use Rattle.pass_proofs.specs.ir_laws.facts.names_apart.Apart.{AreNamesApart}
use Rattle.pass_proofs.specs.rule_laws.rules.names_apart.Words.{AreNamesFew, IsSplitTable}
use Rattle.pass_proofs.proofs.frames.names_apart.Lowered.{ready_at}

pub lowered_apart : (text : List ℕ) (m : Module) → StandsFor text m → IsRefused Stage.Source m None → (layouts : Layouts) (n : Module) → IsFramedForm layouts (early_module m) n
    → AreNamesFew (clean_module (split_module layouts n)) → AreNamesApart (clean_module (split_module layouts n))
lowered_apart text m stands accepted layouts n form few k f there =
    let all = each_there IsSplitTable n.functions
    (λ i g at. ready_at m layouts.coroutines i g (source_tables text m stands accepted i) (stands_as (early_module m) layouts.coroutines form.functions.count (early_module m).functions n.functions form.functions.framed i g at)) in
    at_each IsApart (map clean_function (split_functions layouts.coroutines n n.functions)) k f (clean_apart (split_functions layouts.coroutines n n.functions) (functions_apart layouts.coroutines n n.functions all)) there (few k f there)

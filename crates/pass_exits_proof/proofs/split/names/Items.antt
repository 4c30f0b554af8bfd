-- Lemmas on items.
use Rattle.std.proofs.Common.{false, ◌++◌, refl}
use Rattle.std.proofs.lemmas.Bool.{or_parts}
use Rattle.std.specs.Prelude.{not, option_to_list}
use Rattle.pass_split.specs.Parts.{split_functions, split_module}
use Rattle.pass_fetch_proof.specs.frame_layout.declared.layout.Layouts.{Layouts}
use Rattle.ir_model.specs.Names.{declaration_named, function_named, global_named}
use Rattle.ir_model.specs.declared.module.Module.{Module}
use Rattle.pass_fetch_proof.specs.rule_names.Reserved.{is_part, is_reserved}
use Rattle.pass_fetch_proof.specs.rule_names.declared.stage.Stage.{Stage}
use Rattle.pass_fetch_proof.proofs.rule_laws.rules.plain_rules.Once.{is_once}
use Rattle.pass_fetch_proof.specs.rule_laws.rules.plain_rules.Items.{AreNamesFree, KeepsItemRules}
use Rattle.pass_fetch_proof.proofs.rule_laws.frames.same_names.Kept.{knows_name_kept}
use Rattle.pass_exits_proof.proofs.split.names.Parts.{has_parts, made_is_new, name_is_made, stands_named}
use Rattle.pass_fetch_proof.specs.ir_laws.facts.same_names.Short.{HaveShortNames}
use Rattle.pass_fetch_proof.specs.rule_types.Limits.{all_fit, is_past}
use Rattle.pass_fetch_proof.specs.rule_types.Depth.{is_shallow}
use Rattle.pass_fetch_proof.proofs.ir_laws.facts.Truth.{out_of_both}
use Rattle.pass_fetch_proof.proofs.rule_laws.rules.same_names.Items.{items_kept, new}

module _ (ls : Layouts) (m : Module) (h : KeepsItemRules Stage.Source m) (short : HaveShortNames m) where
  abbrev split : Module
  split = split_module ls m

  split_names_free : AreNamesFree Stage.Plain split
  split_names_free =
      record {
        once = λ k g there.
            let new = made_is_new ls m h short g.name (name_is_made ls m h short k g there) in
            is_once (global_named m g.name) (declaration_named m g.name) (function_named split g.name) k new.0 new.1 (stands_named ls m h short k g there);
        free = λ k g there. out_of_both (is_reserved g.name) false (made_is_new ls m h short g.name (name_is_made ls m h short k g there)).2 refl;
      }

  pub split_keeps_items : KeepsItemRules Stage.Plain split
  split_keeps_items =
      items_kept m (split_functions ls.coroutines m m.functions) (knows_name_kept m split (has_parts ls m h short)) Stage.Source Stage.Plain h split_names_free
      (record {
        types = λ k t there. refl;
        globals = λ k g there. out_of_both (is_reserved g.name) false (or_parts (is_reserved g.name) (is_part m g.name) (h.reserved.globals k g there)).0 refl;
        declarations = λ k d there. refl;
      })
      (record {
        types = h.depths.types;
        globals = λ k g there. (or_parts (is_past Stage.Source 65535 k) (not (is_shallow m.types g.ty)) (h.depths.globals k g there)).1;
        declarations = λ k d there. (or_parts (is_past Stage.Source 65535 k) (not (all_fit m (option_to_list d.result ++ d.params))) (h.depths.declarations k d there)).1;
      })

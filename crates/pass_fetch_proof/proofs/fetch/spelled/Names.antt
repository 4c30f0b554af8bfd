-- Lemmas on names.
use Rattle.std.proofs.Common.{◌≡◌, ℕ, zero, suc, true, List, [], ◌∷◌}
use Rattle.pass_edges_proof.specs.text_names.Spelling.{IsName, is_name_text}
use Rattle.ir_model.specs.Names.{numbered}
use Rattle.pass_edges_proof.specs.run_laws.changed.Changed.{Each}
use Rattle.pass_edges_proof.specs.pass_fetch.Blocks.{numbered_names}
use Rattle.pass_edges_proof.proofs.ir_laws.facts.Lists.{numbered_named}
use Rattle.pass_edges_proof.proofs.ir_laws.facts.Members.{joined_names}

pub all_numbered : (word : List ℕ) (k : ℕ) → is_name_text word ≡ true → Each IsName (numbered_names word k)
all_numbered word zero h = tt
all_numbered word (suc k) h = joined_names (numbered_names word k) (numbered word k ∷ []) (all_numbered word k h) (numbered_named word k h, tt)

use Rattle.pass_edges_proof.proofs.kept.sources.SaveTokens.{none_from_entry, one_save}
use Rattle.pass_edges_proof.proofs.kept.sources.WaysBack.{none_back}
use Rattle.pass_edges_proof.proofs.kept.sources.suspends_come_behind_their_saves.Goals as goal

pub returns-clause-once : goal.returns-clause-once
returns-clause-once c = λ m k f rules save other s d e h i. one_save k m f rules save other s d e h i

pub returns-clause-entry : goal.returns-clause-entry
returns-clause-entry c = λ m k f rules save s d e other way. none_from_entry k m f rules save s d e other way

pub returns-clause-back : goal.returns-clause-back
returns-clause-back c = λ m k f coroutine rules shape paths save s d e way.
    none_back k m f coroutine rules shape paths save s d e way

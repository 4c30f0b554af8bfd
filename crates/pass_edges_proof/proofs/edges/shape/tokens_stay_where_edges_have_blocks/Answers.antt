use Rattle.pass_edges_proof.proofs.edges.shape.Kept.{same_calls}
use Rattle.pass_early_proof.proofs.rule_laws.frames.spared.Tokens.{same_tokens}
use Rattle.pass_edges.specs.EdgeBlocks.{with_edge_blocks}
use Rattle.pass_edges_proof.proofs.edges.shape.tokens_stay_where_edges_have_blocks.Goals as goal

pub returns : goal.returns
returns c = λ m k f rules coroutine calls switches. same_tokens f (with_edge_blocks f) (same_calls m k f rules coroutine calls switches)

-- Lemmas on edges.
use Rattle.std.proofs.Common.{◌≡◌, ℕ, ◌+◌, List, [], ◌∷◌, ◌++◌, true, length, refl, sym, subst}
use Rattle.std.specs.Prelude.{codes, decimal}
use Rattle.pass_fetch_proof.specs.text_names.Spelling.{IsName, is_name_text}
use Rattle.pass_fetch_proof.proofs.ir_laws.facts.Members.{each_joined, joined_names}
use Rattle.ir_model.specs.declared.module.Block.{Block}
use Rattle.ir_model.specs.declared.module.Function.{Function}
use Rattle.pass_fetch_proof.proofs.ir_laws.facts.Lists.{number_bytes, numbered_named, word_first}
use Rattle.pass_fetch_proof.specs.rule_laws.texts.spelled.Spelled.{IsSpelled}
use Rattle.pass_fetch_proof.specs.rule_laws.rules.spelled.Spelled.{IsSpelledBlock, IsSpelledFunction}
use Rattle.pass_fetch_proof.specs.run_laws.changed.Changed.{Each}
use Rattle.pass_split.specs.pass_exits.ExitBlocks.{blocks_by, exit_blocks, exit_names, mark_text, with_exit_blocks}
use Rattle.pass_split.specs.pass_exits.Exits.{block_exits, exits_of}
use Rattle.pass_split.specs.pass_exits.declared.exit.Exit.{Exit}
use Rattle.pass_exits_proof.proofs.exits.rules.Operands as exits

-- ---- blocks on edges that leave windows

mark_named : (suspend : ℕ) → is_name_text (mark_text suspend) ≡ true
mark_named suspend = word_first (codes "$c.back." ++ decimal suspend) (codes ".") (word_first (codes "$c.back.") (decimal suspend) refl (number_bytes suspend)) refl

exits_named : (k : ℕ) (es : List Exit) → Each IsName (exit_names k es)
exits_named k [] = tt
exits_named k (e ∷ es) = (numbered_named (mark_text e.suspend) k (mark_named e.suspend), exits_named (k + 1) es)

exit_jumps_spelled : (n : ℕ) (es : List Exit) → Each IsSpelledBlock (exit_blocks n es)
exit_jumps_spelled n [] = tt
exit_jumps_spelled n (e ∷ es) = (record { phis = tt; instrs = tt; term = tt }, exit_jumps_spelled (n + 1) es)

module _ (f : Function) where
  exit_blocks_spelled : (at n : ℕ) (bs : List Block) → Each IsSpelledBlock bs → Each IsSpelledBlock (blocks_by f at n bs)
  exit_blocks_spelled at n [] h = tt
  exit_blocks_spelled at n (b ∷ bs) h = (
    record { phis = h.0.phis; instrs = h.0.instrs; term = subst (Each IsSpelled) (sym (exits.ending_types_same f at n b.term)) h.0.term },
    each_joined IsSpelledBlock (exit_blocks n (block_exits f at b)) (blocks_by f (at + 1) (n + length (block_exits f at b)) bs) (exit_jumps_spelled n (block_exits f at b))
        (exit_blocks_spelled (at + 1) (n + length (block_exits f at b)) bs h.1),
  )

pub exits_spelled : (f : Function) → IsSpelledFunction f → IsSpelledFunction (with_exit_blocks f)
exits_spelled f h =
    record {
      name = h.name;
      result = h.result;
      params = h.params;
      blocks = exit_blocks_spelled f 0 (length f.names) f.blocks h.blocks;
      names = joined_names f.names (exit_names 0 (exits_of f)) h.names (exits_named 0 (exits_of f));
    }

-- Phis, blocks and functions with their operands fetched anew. A phi's operand is fetched at the end of the block from which it comes.
use Rattle.std.specs.Prelude.{ℕ, zero, suc, List, [], length, map, replicate, slice_get, slice_set, Some, None, Option, unwrap_or, ◌-◌, ◌∷◌, ◌++◌}
use Rattle.ir_base.specs.declared.name.Name.{Name}
use Rattle.ir_model.specs.Names.{numbered}
use Rattle.ir_model.specs.declared.instr.Incoming.{Incoming}
use Rattle.ir_model.specs.declared.instr.Instr.{Instr}
use Rattle.ir_model.specs.declared.instr.Phi.{Phi}
use Rattle.ir_model.specs.declared.module.Block.{Block}
use Rattle.ir_model.specs.declared.module.Function.{Function}
use Rattle.pass_fetch.specs.Fetching.{fetch_into, fetch_of, fetched_operand, fetches_of_all, next_after, next_after_all}
use Rattle.pass_fetch.specs.Instrs.{fetched_instrs, fetched_term, next_after_instrs, term_operands}
use Rattle.pass_fetch.specs.declared.fetch.Fetch.{Fetch}

-- ---- phis

abbrev pub fetched_incoming : List (Option Fetch) → ℕ → List Incoming → List Incoming
fetched_incoming t n [] = []
fetched_incoming t n (i ∷ is) = record { value = fetched_operand t n i.value; from = i.from } ∷ fetched_incoming t (next_after t n i.value) is

abbrev pub next_after_phi : List (Option Fetch) → ℕ → Phi → ℕ
next_after_phi t n p = next_after_all t n (map (λ i. i.value) p.incoming)

abbrev pub fetched_phi : List (Option Fetch) → ℕ → Phi → Phi
fetched_phi t n p = record { result = p.result; ty = p.ty; incoming = fetched_incoming t n p.incoming }

abbrev pub fetched_phis : List (Option Fetch) → ℕ → List Phi → List Phi
fetched_phis t n [] = []
fetched_phis t n (p ∷ ps) = fetched_phi t n p ∷ fetched_phis t (next_after_phi t n p) ps

abbrev pub next_after_phis : List (Option Fetch) → ℕ → List Phi → ℕ
next_after_phis t n [] = n
next_after_phis t n (p ∷ ps) = next_after_phis t (next_after_phi t n p) ps

abbrev pub next_after_phis_by : List (Option Fetch) → ℕ → List Block → ℕ
next_after_phis_by t n [] = n
next_after_phis_by t n (b ∷ bs) = next_after_phis_by t (next_after_phis t n b.phis) bs

-- ---- for each label what is fetched for phis at the end of its block

abbrev pub end_at : List (List Instr) → ℕ → List Instr
end_at ends label = unwrap_or (slice_get ends label) []

-- the table with what is fetched into the name n behind the others of a label
abbrev pub with_end : List (List Instr) → ℕ → ℕ → Option Fetch → List (List Instr)
with_end ends label n None = ends
with_end ends label n (Some f) = slice_set ends label (end_at ends label ++ fetch_into n f ∷ [])

abbrev pub ends_of_incoming : List (Option Fetch) → ℕ → List (List Instr) → List Incoming → List (List Instr)
ends_of_incoming t n ends [] = ends
ends_of_incoming t n ends (i ∷ is) = ends_of_incoming t (next_after t n i.value) (with_end ends i.from n (fetch_of t i.value)) is

abbrev pub ends_of_phis : List (Option Fetch) → ℕ → List (List Instr) → List Phi → List (List Instr)
ends_of_phis t n ends [] = ends
ends_of_phis t n ends (p ∷ ps) = ends_of_phis t (next_after_phi t n p) (ends_of_incoming t n ends p.incoming) ps

abbrev pub ends_of_blocks : List (Option Fetch) → ℕ → List (List Instr) → List Block → List (List Instr)
ends_of_blocks t n ends [] = ends
ends_of_blocks t n ends (b ∷ bs) = ends_of_blocks t (next_after_phis t n b.phis) (ends_of_phis t n ends b.phis) bs

-- ---- blocks; m is the next new name of a phi's operand

abbrev pub fetched_block : List (Option Fetch) → List (List Instr) → ℕ → ℕ → Block → Block
fetched_block t ends m n b =
    let last = next_after_instrs t n b.instrs in
    record {
      label = b.label;
      phis = fetched_phis t m b.phis;
      instrs = fetched_instrs t n b.instrs ++ end_at ends b.label ++ fetches_of_all t last (term_operands b.term);
      term = fetched_term t last b.term;
    }

abbrev pub next_after_block : List (Option Fetch) → ℕ → Block → ℕ
next_after_block t n b = next_after_all t (next_after_instrs t n b.instrs) (term_operands b.term)

abbrev pub fetched_blocks : List (Option Fetch) → List (List Instr) → ℕ → ℕ → List Block → List Block
fetched_blocks t ends m n [] = []
fetched_blocks t ends m n (b ∷ bs) = fetched_block t ends m n b ∷ fetched_blocks t ends (next_after_phis t m b.phis) (next_after_block t n b) bs

abbrev pub next_after_blocks : List (Option Fetch) → ℕ → List Block → ℕ
next_after_blocks t n [] = n
next_after_blocks t n (b ∷ bs) = next_after_blocks t (next_after_block t n b) bs

-- ---- the function

-- so many names of a word and a number, from 0 on
abbrev pub numbered_names : List ℕ → ℕ → List Name
numbered_names word zero = []
numbered_names word (suc k) = numbered_names word k ++ numbered word k ∷ []

-- the phis' operands have the first of the new names, and those of instructions and terminators the others
abbrev pub with_fetches : Function → List (Option Fetch) → List ℕ → Function
with_fetches f t word =
    let first = length f.names in
    let second = next_after_phis_by t first f.blocks in
    let ends = ends_of_blocks t first (replicate first []) f.blocks in
    record {
      name = f.name;
      result = f.result;
      params = f.params;
      coroutine = f.coroutine;
      blocks = fetched_blocks t ends first second f.blocks;
      names = f.names ++ numbered_names word (next_after_blocks t second f.blocks - first);
    }

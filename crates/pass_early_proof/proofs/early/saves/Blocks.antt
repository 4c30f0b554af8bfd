-- The blocks of a function whose saves are written out.
use Rattle.std.proofs.Common.{◌≡◌, ℕ, zero, suc, Bool, List, [], ◌∷◌, length, refl, ap, ◌∙◌}
use Rattle.std.specs.Prelude.{Some, None, Option, option_map, slice_get, unwrap_or, if◌then◌else◌, ◌==◌}
use Rattle.ir_model.specs.Names.{first_where, position_of}
use Rattle.ir_model.specs.declared.module.Block.{Block}
use Rattle.ir_model.specs.declared.module.Function.{Function}
use Rattle.pass_early_proof.specs.early.saves.SavesWritten.{behind_saves, saved_block, saved_blocks, saved_function, with_saves}
use Rattle.rule_laws.specs.ir_laws.facts.expanded.Spots.{instrs_in}
use Rattle.pass_early_proof.specs.early.saves.Spots.{number_of_block}

pub get_block : (c : Bool) (k n : ℕ) (bs : List Block) → slice_get (saved_blocks c n bs) k ≡ option_map (saved_block c (number_of_block c k n bs)) (slice_get bs k)
get_block c zero n [] = refl
get_block c (suc k) n [] = refl
get_block c zero n (b ∷ bs) = refl
get_block c (suc k) n (b ∷ bs) = get_block c k (behind_saves c n b.instrs) bs

pub length_blocks : (c : Bool) (n : ℕ) (bs : List Block) → length (saved_blocks c n bs) ≡ length bs
length_blocks c n [] = refl
length_blocks c n (b ∷ bs) = ap suc (length_blocks c (behind_saves c n b.instrs) bs)

-- the first block that passes a test, which looks at no instruction
pub first_block : (test : Block → Bool) → ((c : Bool) (n : ℕ) (b : Block) → test (saved_block c n b) ≡ test b) → (c : Bool) (n : ℕ) (bs : List Block) → first_where test (saved_blocks c n bs) ≡ first_where test bs
first_block test h c n [] = refl
first_block test h c n (b ∷ bs) =
    ap (λ (t : Bool). if t then Some 0 else option_map suc (first_where test (saved_blocks c (behind_saves c n b.instrs) bs))) (h c n b)
    ∙ ap (λ (o : Option ℕ). if test b then Some 0 else option_map suc o) (first_block test h c (behind_saves c n b.instrs) bs)

pub position_saved : (f : Function) (label : ℕ) → position_of (saved_function f) label ≡ position_of f label
position_saved f label =
    ap (λ (o : Option ℕ). unwrap_or o (length (saved_blocks f.coroutine (length f.names) f.blocks))) (first_block (λ (b : Block). b.label == label) (λ c n b. refl) f.coroutine (length f.names) f.blocks)
    ∙ ap (unwrap_or (first_where (λ (b : Block). b.label == label) f.blocks)) (length_blocks f.coroutine (length f.names) f.blocks)

instrs_of_block : (c : Bool) (n : ℕ) (o : Option Block) → instrs_in (option_map (saved_block c n) o) ≡ with_saves c n (instrs_in o)
instrs_of_block c n None = refl
instrs_of_block c n (Some b) = refl

-- the instructions of a block
pub instrs_saved : (c : Bool) (k n : ℕ) (bs : List Block) → instrs_in (slice_get (saved_blocks c n bs) k) ≡ with_saves c (number_of_block c k n bs) (instrs_in (slice_get bs k))
instrs_saved c k n bs = ap instrs_in (get_block c k n bs) ∙ instrs_of_block c (number_of_block c k n bs) (slice_get bs k)

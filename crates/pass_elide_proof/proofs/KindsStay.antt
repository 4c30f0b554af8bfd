-- Which frames were given goes by the kinds of blocks, which a change of one block leaves.
use Rattle.std.proofs.Common.{◌≡◌, ℕ, zero, suc, Bool, true, false, List, [], ◌∷◌, length, not, refl, sym, ap, ◌∙◌, ◌||◌, ◌==◌}
use Rattle.std.specs.Option.{option_map_or}
use Rattle.std.specs.Prelude.{None, Option, Some, filter, if◌then◌else◌}
use Rattle.pass_proofs.specs.run_framed.Framed.{is_given, is_stack_block}
use Rattle.pass_proofs.specs.run_memory.Memory.{same_kind, with_block}
use Rattle.pass_proofs.specs.run_memory.declared.block.Kind.{Kind}
use Rattle.pass_proofs.specs.run_memory.declared.block.MemoryBlock.{MemoryBlock}
use Rattle.pass_proofs.specs.run_source.declared.state.Instance.{Instance}

module _ (f : MemoryBlock → MemoryBlock) (keeps : (x : MemoryBlock) → (f x).kind ≡ x.kind) where
  stack_same : (n : List MemoryBlock) (k c : ℕ) → is_stack_block (with_block n k f) c ≡ is_stack_block n c
  stack_same [] k c = refl
  stack_same (y ∷ n) zero zero = ap (λ (q : Kind). same_kind q Kind.Stack) (keeps y)
  stack_same (y ∷ n) zero (suc c) = refl
  stack_same (y ∷ n) (suc k) zero = refl
  stack_same (y ∷ n) (suc k) (suc c) = stack_same n k c

  pub given_kept : (n : List MemoryBlock) (k : ℕ) (z : Instance) → is_given (with_block n k f) z ≡ is_given n z
  given_kept n k z = ap (λ (b : Bool). b || not (z.start == 0)) (stack_same n k z.block)

  pub one_kept : (n : List MemoryBlock) (k : ℕ) (o : Option Instance)
      → option_map_or (is_given (with_block n k f)) o false ≡ option_map_or (is_given n) o false
  one_kept n k None = refl
  one_kept n k (Some z) = given_kept n k z

  pub many_kept : (n : List MemoryBlock) (k : ℕ) (ys : List Instance)
      → length (filter (is_given (with_block n k f)) ys) ≡ length (filter (is_given n) ys)
  many_kept n k [] = refl
  many_kept n k (y ∷ ys) =
      (λ i. length (if given_kept n k y i then y ∷ filter (is_given (with_block n k f)) ys
      else filter (is_given (with_block n k f)) ys)) ∙ on (is_given n y) (many_kept n k ys)
    where
      on : (b : Bool) → length (filter (is_given (with_block n k f)) ys) ≡ length (filter (is_given n) ys)
          → length (if b then y ∷ filter (is_given (with_block n k f)) ys
          else filter (is_given (with_block n k f)) ys)
          ≡ length (if b then y ∷ filter (is_given n) ys else filter (is_given n) ys)
      on true h = ap suc h
      on false h = h

-- What an instance is looked for by.
use Rattle.std.proofs.Common.{◌≡◌, ℕ, Bool, true, false, ◌&&◌, List, refl, ap, sym, ◌∙◌, Option, Some, None}
use Rattle.std.specs.Prelude.{is_none, nat_le, nat_lt, not, ◌==◌, ◌+◌, ◌||◌}
use Rattle.std.specs.List.{list_all}
use Rattle.std.specs.Option.{option_map_or}
use Rattle.run_memory.specs.declared.pointer.Offset.{Offset}
use Rattle.run_memory.specs.declared.pointer.Pointer.{Pointer}
use Rattle.run_memory.specs.declared.pointer.Value.{Value}
use Rattle.run_source.specs.State.{began_at, is_finished, last_from}
use Rattle.run_source.specs.declared.state.Instance.{Instance}
use Rattle.run_framed.specs.Framed.{FramedGiven, are_finished_at, covers, layout_of, promise_offset}
use Rattle.run_framed.specs.FramedEffects.{fits}
use Rattle.run_framed.specs.declared.judging.Wanted.{Wanted}
use Rattle.run_framed.proofs.AllPass.{all-same, none-fails}
use Rattle.run_source.proofs.Chains.{IsOfBlock}

and-left : (a b : Bool) → (a && b) ≡ true → a ≡ true
and-left true b e = refl
and-left false b e = e

pub of-block : (g : FramedGiven) (b : ℕ) (w : Wanted) → IsOfBlock (fits g b w) b
of-block g b (Wanted.Byte k) = record { in_block = λ x e. and-left (x.block == b) (nat_le x.start k) (and-left ((x.block == b) && nat_le x.start k) (nat_lt k (x.start + (layout_of g.layouts x.coroutine).size)) e) }
of-block g b (Wanted.Promise o) = record { in_block = λ x e. and-left (x.block == b) (option_map_or (λ offset. o == x.start + offset) (promise_offset g x) false) e }
of-block g b (Wanted.Unfinished o) = record { in_block = λ x e. and-left (x.block == b) (x.start == o) (and-left (began_at b o x) (not (is_finished x.status)) e) }
of-block g b (Wanted.Around k) =
    record { in_block = λ x e. and-left (x.block == b) (nat_le x.start k) (and-left ((x.block == b) && nat_le x.start k) (nat_lt k (x.start + (layout_of g.layouts x.coroutine).size)) (and-left (covers g b k x) (not (began_at b k x)) e)) }

over-is : (g : FramedGiven) (xs : List Instance) (b o : ℕ) → list_all (λ x. not (began_at b o x) || is_finished x.status) xs ≡ is_none (last_from (fits g b (Wanted.Unfinished o)) 0 xs)
over-is g xs b o = all-same (began_at b o) (λ x. is_finished x.status) xs ∙ none-fails (fits g b (Wanted.Unfinished o)) 0 xs

pub over-none : (g : FramedGiven) (xs : List Instance) (b : ℕ) (o : Offset) (n : Option ℕ) → n ≡ last_from (fits g b (Wanted.Unfinished o.bits)) 0 xs → n ≡ None → true ≡ are_finished_at xs (Value.Ptr (Pointer.At b o))
over-none g xs b o n e is = sym (over-is g xs b o.bits ∙ ap is_none (sym e ∙ is))

pub over-some : (g : FramedGiven) (xs : List Instance) (b : ℕ) (o : Offset) (n : Option ℕ) (i : ℕ) → n ≡ last_from (fits g b (Wanted.Unfinished o.bits)) 0 xs → n ≡ Some i → false ≡ are_finished_at xs (Value.Ptr (Pointer.At b o))
over-some g xs b o n i e is = sym (over-is g xs b o.bits ∙ ap is_none (sym e ∙ is))

-- A place that earlier frames leave has room for a frame that begins there.
use Rattle.std.proofs.Common.{◌≡◌, ℕ, ◌-◌, ◌<◌, ◌&&◌, Bool, true, false, not, List, [], ◌∷◌, ◌++◌, Option, Some, None, refl, sym, ap, ◌∙◌, subst}
use Rattle.std.specs.Prelude.{slice_get}
use Rattle.std.specs.List.{list_any}
use Rattle.std.proofs.lemmas.Bool.{and_parts, eqb-true, false≢true}
use Rattle.pass_split_proof.proofs.states.Judged.{control_covered, judge_is, judge_new}
use Rattle.pass_split_proof.proofs.states.Standing.{open_bytes}
use Rattle.pass_split_proof.specs.given_begins.Room.{Apart, Around, HasRoom, IsPlaceFor, IsSpare, LeavesRoom, Reused}
use Rattle.pass_split_proof.specs.states.Instances.{IsControl, is_held}
use Rattle.pass_split_proof.specs.states.Memories.{AreBeside, homes_of}
use Rattle.pass_proofs.specs.run_framed.Framed.{FramedGiven, covers, field_opens, frame_rights, is_open_byte, judge_of, layout_of}
use Rattle.pass_proofs.specs.run_laws.memory.Pointers.{IsByte}
use Rattle.pass_proofs.specs.run_laws.memory.Standing.{IsOpen, byte_of}
use Rattle.pass_proofs.specs.run_memory.declared.block.MemoryBlock.{MemoryBlock}
use Rattle.pass_proofs.specs.run_source.declared.state.Instance.{Instance}

shut_open : (b : Bool) → b ≡ false → not (b && true) ≡ false → ⊥
shut_open true e f = absurd (cc)
shut_open false e f = absurd (cc)

module _ (g : FramedGiven) (xs : List Instance) (x : Instance) (m n : List MemoryBlock)
    (place : IsPlaceFor g xs x m n) (beside : AreBeside g xs m n) where
  abbrev more : List Instance
  more = xs ++ x ∷ []

  abbrev u : MemoryBlock
  u = place.block

  -- control bytes of frames that are there are spare
  clear : (i : ℕ) (z : Instance) (at : ℕ) → slice_get xs i ≡ Some z → is_held m z ≡ true
      → IsControl g z x.block at → covers g x.block at x ≡ true → IsSpare g x at
  clear i z at e held control cover = by (place.leave i z e control.0)
    where
      by : LeavesRoom g m x z → IsSpare g x at
      by (Reused start coroutine gone) = absurd (false≢true (sym gone ∙ held))
      by (Apart spare) = spare at (subst (λ (b : ℕ). covers g b at z ≡ true) control.0
          (control_covered g xs z (place.laid i z e) at (refl, control.1))) cover
      by (Around away) = absurd (away at control cover)

  -- what is open from now on stands
  module _ (at : ℕ) (v : MemoryBlock) (there : slice_get n x.block ≡ Some v) (lt : at < u.size)
      (cover : covers g x.block at x ≡ true) (opened : IsOpen (frame_rights g more) x.block u at) where
    -- by the field of the new frame
    opens : not (list_any (field_opens (at - x.start)) (layout_of g.layouts x.coroutine).fields && true) ≡ false
    opens = sym (ap (λ (j : Option (ℕ × Instance)). not (is_open_byte g at j && true)) (judge_new g xs x x.block at
        cover)) ∙ opened

    as_before : IsOpen (frame_rights g xs) x.block u at → IsByte (homes_of m) (byte_of u at) (byte_of v at)
    as_before was = open_bytes g xs m n beside.stands x.block at u v place.there there place.live lt was

    by_frame : (i : ℕ) (z : Instance) → judge_of g xs x.block at ≡ Some (i, z) → covers g x.block at z ≡ true
        → LeavesRoom g m x z → IsByte (homes_of m) (byte_of u at) (byte_of v at)
    by_frame i z e covered (Reused start coroutine gone) = as_before
        (ap (λ (j : Option (ℕ × Instance)). not (is_open_byte g at j && true)) e
        ∙ ap (λ (p : ℕ × ℕ). not (list_any (field_opens (at - p.0)) (layout_of g.layouts p.1).fields && true))
        (λ k. (start k, coroutine k)) ∙ opens)
    by_frame i z e covered (Apart spare) = absurd (shut_open
        (list_any (field_opens (at - x.start)) (layout_of g.layouts x.coroutine).fields)
        (spare at covered cover).shut opens)
    by_frame i z e covered (Around away) = place.stand at i z v e away there lt cover

    pub stands : IsByte (homes_of m) (byte_of u at) (byte_of v at)
    stands = by (judge_of g xs x.block at) refl
      where
        by : (j : Option (ℕ × Instance)) → judge_of g xs x.block at ≡ j
            → IsByte (homes_of m) (byte_of u at) (byte_of v at)
        by None e = as_before (ap (λ (j : Option (ℕ × Instance)). not (is_open_byte g at j && true)) e)
        by (Some (i, z)) e =
            let judge = judge_is g xs x.block at i z e in
            by_frame i z e judge.covered (place.leave i z judge.there
            (eqb-true z.block x.block (and_parts _ _ (and_parts _ _ judge.covered).0).0))

  pub has_room : HasRoom g xs x m n
  has_room = record {
    block = u;
    there = place.there;
    live = place.live;
    writable = place.writable;
    owned = place.owned;
    given = place.given;
    lies = place.lies;
    clear = clear;
    opened = stands;
  }

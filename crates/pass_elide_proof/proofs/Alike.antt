-- What may be done with a byte of a frame may be done with that of a frame that is judged alike.
use Rattle.std.proofs.Common.{◌≡◌, ◌≤◌, ◌+◌, ◌-◌, ◌%◌, ℕ, zero, suc, Bool, true, false, not, List, Option, refl, ap, subst, ◌∙◌, arith, ◌&&◌, ◌==◌}
use Rattle.std.proofs.lemmas.Bool.{and_parts}
use Rattle.std.specs.List.{list_any}
use Rattle.std.specs.Prelude.{None, Some, nat_le}
use Rattle.pass_elide_proof.specs.Frames.{AreJudgedAlike, AreJudges}
use Rattle.pass_proofs.specs.run_framed.Framed.{FramedGiven, field_opens, frame_rights, is_open, is_open_byte, judge_of, layout_of, meets_in}
use Rattle.pass_proofs.specs.run_laws.memory.Standing.{HasRights}
use Rattle.pass_proofs.specs.run_memory.declared.block.MemoryBlock.{MemoryBlock}
use Rattle.pass_proofs.specs.run_source.declared.state.Instance.{Instance}

gap : (by o s r : ℕ) → r ≡ by + s → by + o - r ≡ o - s
gap by o s r e = omega (arith, e)

unclosed : (t : Bool) → not t ≡ false → t ≡ true
unclosed true e = refl
unclosed false e = absurd (cc)

module _ (g h : FramedGiven) (x y : MemoryBlock) (by : ℕ) (layouts : h.layouts ≡ g.layouts) where
  byte_same : (o : ℕ) (j k : Option (ℕ × Instance)) → AreJudges by x y j k
      → is_open_byte h (by + o) k ≡ is_open_byte g o j
  byte_same o None None a = refl
  byte_same o None (Some q) a = absurd a
  byte_same o (Some p) None a = absurd a
  byte_same o (Some p) (Some q) a =
      let far : by + o - q.1.start ≡ o - p.1.start = gap by o p.1.start q.1.start a.1 in
      λ t. list_any (field_opens (far t)) (layout_of (layouts t) (a.0 t)).fields

  meets_same : (o align : ℕ) (j k : Option (ℕ × Instance)) → AreJudges by x y j k
      → meets_in h y (by + o) align k ≡ meets_in g x o align j
  meets_same o align None None a =
      let at : by + o ≡ o = none by o a.0 in
      λ t. (at t % align == 0) && nat_le align (a.1 t)
    where
      none : (by o : ℕ) → by ≡ 0 → by + o ≡ o
      none by o e = omega (arith, e)
  meets_same o align None (Some q) a = absurd a
  meets_same o align (Some p) None a = absurd a
  meets_same o align (Some p) (Some q) a =
      let far : by + o - q.1.start ≡ o - p.1.start = gap by o p.1.start q.1.start a.1 in
      λ t. (far t % align == 0) && nat_le align (layout_of (layouts t) (a.0 t)).align

module _ (g h : FramedGiven) (xs ys : List Instance) (b c by size : ℕ) (x y : MemoryBlock)
    (layouts : h.layouts ≡ g.layouts) (alike : AreJudgedAlike g h xs ys b c by size x y) where
  opens : (len o : ℕ) → o + len ≤ size → is_open g xs b o len ≡ true → is_open h ys c (by + o) len ≡ true
  opens zero o le e = refl
  opens (suc len) o le e =
      let parts = and_parts _ _ e in
      let first : is_open_byte h (by + o) (judge_of h ys c (by + o)) ≡ true
      = byte_same g h x y by layouts o (judge_of g xs b o) (judge_of h ys c (by + o))
      (alike.each o (omega (arith, le))) ∙ parts.0 in
      let next : by + (o + 1) ≡ by + o + 1 = omega arith in
      let rest : is_open h ys c (by + o + 1) len ≡ true
      = subst (λ (n : ℕ). is_open h ys c n len ≡ true) next (opens len (o + 1) (omega (arith, le)) parts.1) in
      λ t. first t && rest t

  -- in a block of the size, from its start on
  pub allowed : x.size ≤ size → HasRights (frame_rights g xs) (frame_rights h ys)
      (record { block = c; offset = by; is_seen = true }) b x y
  allowed le = record {
    opens = λ o len fits closed. ap not (opens len o (omega (arith, le, fits)) (unclosed _ closed));
    aligned = λ o len align pos fits closed is met.
        meets_same g h x y by layouts o align (judge_of g xs b o) (judge_of h ys c (by + o))
        (alike.each o (omega (arith, le, fits, pos))) ∙ met;
    comparable = λ o fits may. refl;
  }

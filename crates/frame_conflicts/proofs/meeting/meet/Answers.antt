use Rattle.std.proofs.Common.{◌≡◌, ◌+◌, ◌∙◌, sym, subst, refl, true, false}
use Rattle.std.specs.Prelude.{bit_or, slice_set}
use Rattle.std.specs.Int.{bit_at}
use Rattle.std.proofs.lemmas.Bool.{eqb-true}
use Rattle.frame_classes.specs.flow_blocks.Words.{word_at}
use Rattle.frame_conflicts.specs.Meeting.{HaveMet}
use Rattle.frame_conflicts.proofs.Meetings.{bit_met, bit_passed}
use Rattle.frame_conflicts.proofs.Places.{bit_test, no_both}
use Rattle.frame_conflicts.proofs.meeting.meet.Goals.{then-has_bit, else-has_bit}
use Rattle.frame_conflicts.proofs.meeting.meet.Goals as goal

pub loop-bit-preserved : goal.loop-bit-preserved
loop-bit-preserved c = elim c.if-has_bit.branch [
  | then-has_bit w ↦
      let is : c.if-has_bit.words ≡ slice_set c.loop-bit.words c.loop-bit.bit (bit_or (word_at c.loop-bit.words c.loop-bit.bit) c.args.other) = cc in
      let on : c.has_bit.result ≡ true = cc in
      bit_met c.args.one c.args.other c.args.words.now c.loop-bit.bit c.loop-bit.words c.if-has_bit.words c.loop-bit-test.true c.requires
      (eqb-true (bit_at c.args.one c.loop-bit.bit) 1 (sym c.has_bit.ensures ∙ on)) is c.loop-bit.invariant
  | else-has_bit w ↦
      let is : c.if-has_bit.words ≡ c.loop-bit.words = cc in
      let off : c.has_bit.result ≡ false = cc in
      subst (HaveMet c.args.one c.args.other (c.loop-bit.bit + 1) c.args.words.now) (sym is)
      (bit_passed c.args.one c.args.other c.args.words.now c.loop-bit.bit c.loop-bit.words
      (λ h. no_both c.has_bit.result ((bit_test c.has_bit.result c.args.one c.args.one c.loop-bit.bit c.has_bit.ensures refl).1 h) off) c.loop-bit.invariant)
]

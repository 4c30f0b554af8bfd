-- Frame lines are comments: they say nothing.
use Rattle.std.proofs.Common.{◌≡◌, ℕ, Bool, true, List, [], ◌∷◌, ◌++◌, append_assoc, codes, refl, ap, sym, subst, ◌∙◌}
use Rattle.text_names.specs.Spelling.{spelling}
use Rattle.text_symbols.specs.Listing.{symbols_of}
use Rattle.text_canonical.specs.canonical.Lines.{lacks}
use Rattle.text_canonical.proofs.canonical.Steps.{comment_said}
use Rattle.text_frame_lines.specs.Frames.{AreFrames, IsFrame, frame_line, frames_text, number_text}
use Rattle.text_frame_lines.specs.declared.frames.FrameLine.{FrameLine}
use Rattle.text_frame_lines.proofs.Leading.{lacks_line}

-- a frame line behind its semicolon
abbrev comment_of : FrameLine → List ℕ
comment_of f =
    codes " frame @" ++ spelling f.name ++ number_text (codes "size") f.size ++ number_text (codes "align") f.align ++ number_text (codes "index") f.index

lacks_comment : (f : FrameLine) → IsFrame f → lacks 10 (comment_of f) ≡ true
lacks_comment f h = lacks_line f h

all_said : (fs : List FrameLine) (text : List ℕ) → AreFrames fs → symbols_of (frames_text fs ++ text) ≡ symbols_of text
all_said [] text h = refl
all_said (f ∷ fs) text h =
    ap symbols_of (append_assoc (frame_line f ++ codes "\n") (frames_text fs) text)
    ∙ comment_said (comment_of f) (frames_text fs ++ text) (lacks_comment f h.0)
    ∙ all_said fs text h.1

pub frames_said : (lines : List ℕ) (fs : List FrameLine) (text : List ℕ) → lines ≡ frames_text fs → AreFrames fs → symbols_of (lines ++ text) ≡ symbols_of text
frames_said lines fs text e h = ap (λ (l : List ℕ). symbols_of (l ++ text)) e ∙ all_said fs text h

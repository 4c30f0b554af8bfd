-- A text stands for the same module behind frame lines.
use Rattle.std.proofs.Common.{◌≡◌, ℕ, Bool, true, List, [], ◌++◌, refl, sym, ap, subst, ◌∙◌}
use Rattle.text_frame_lines.specs.Frames.{AreFrames, frames_text}
use Rattle.text_frame_lines.specs.declared.frames.FrameLine.{FrameLine}
use Rattle.text_frame_lines.proofs.Said.{frames_said}
use Rattle.text_grammar.specs.Items.{AreItems}
use Rattle.text_grammar.specs.Text.{StandsFor}
use Rattle.ir_model.specs.declared.module.Module.{Module}
use Rattle.text_symbols.specs.Listing.{symbols_of}
use Rattle.text_symbols.specs.declared.listing.Symbols.{Symbols}

same_symbols : (s t : List ℕ) (m : Module) → symbols_of s ≡ symbols_of t → StandsFor t m → StandsFor s m
same_symbols s t m e h = record {
  whole = ap (λ (x : Symbols). x.whole) e ∙ h.whole;
  items = h.items;
  are = subst (λ (x : Symbols). AreItems h.items x.symbols []) (sym e) h.are;
  kept = h.kept;
}

pub stands_behind : (frames : List FrameLine) (text : List ℕ) (m : Module) → AreFrames frames → StandsFor text m → StandsFor (frames_text frames ++ text) m
stands_behind frames text m f h = same_symbols (frames_text frames ++ text) text m (frames_said (frames_text frames) frames text refl f) h

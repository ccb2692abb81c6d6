-- The line of a core that used up its budget, piece by piece.
use Rattle.std.proofs.Common.{◌≡◌, ◌∙◌, ap, ℕ, List, ◌++◌, append_assoc, codes, decimal}
use Rattle.std.specs.Prelude.{Option}
use Rattle.or_elf.specs.Symbols.{SymbolTable}
use Rattle.or_command_run.specs.Budgets.{pc_text, used_text}

-- one piece more behind what stood before
more : (before so_far now piece next : List ℕ) → next ≡ now ++ piece → now ≡ before ++ so_far → next ≡ before ++ (so_far ++ piece)
more before so_far now piece next is so = is ∙ ap (λ l. l ++ piece) so ∙ append_assoc before so_far piece

pub used_pieces : (symbols : Option SymbolTable) (number budget pc : ℕ) (a b c d e f g h : List ℕ)
    → b ≡ a ++ codes "or1k: core " → c ≡ b ++ decimal number → d ≡ c ++ codes " used its budget of " → e ≡ d ++ decimal budget
    → f ≡ e ++ codes " steps at " → g ≡ f ++ pc_text symbols pc → h ≡ g ++ codes "\n" → h ≡ a ++ used_text symbols number budget pc
unfolding used_text
used_pieces symbols number budget pc a b c d e f g h b_is c_is d_is e_is f_is g_is h_is =
    more a _ g (codes "\n") h h_is (more a _ f (pc_text symbols pc) g g_is (more a _ e (codes " steps at ") f f_is (more a _ d (decimal budget) e e_is
    (more a _ c (codes " used its budget of ") d d_is (more a _ b (decimal number) c c_is b_is)))))

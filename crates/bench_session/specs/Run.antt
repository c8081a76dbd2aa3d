-- A channel from its residuals: what `matuviso_run_channel` answers and writes, by the definitions that a session's calls promise.
use Rattle.std.specs.Prelude.{Bool, ◌&&◌, List, [], ◌∷◌, ℕ, ◌+◌, leb, ℤ, length, set}
use Rattle.blend.specs.declared.WeightedHeader.{WeightedHeader}
use Rattle.integer.specs.Order.{if}
use Rattle.lab_weighted.specs.Told.{header_of}
use Rattle.session.specs.Session.{asks, opens, puts}
use Rattle.session.specs.declared.Session.{Session}
pub use Rattle.told.specs.Channel.{End, ended, stepped, Ends, ends_determined}

module _ (references records : List ℤ) where
  -- ask and put of a pixel for each residual, from pixel k on
  unfoldable pub run_from : ℕ → Session → List ℤ → List ℕ → List ℤ → List ℕ → List ℤ → End
  run_from k s plane contexts cells m [] = ended 0 plane contexts cells m
  run_from k s plane contexts cells m (residual ∷ residuals) =
      let a = asks s plane references records cells m in
      stepped a.says
      (λ number. ended number plane contexts a.cells m)
      (λ context.
      let p = puts a.session residual plane m in
      stepped p.says
      (λ number. ended number p.plane (set contexts k context) a.cells p.memory)
      (λ done. run_from (k + 1) p.session p.plane (set contexts k context) a.cells p.memory residuals))

  module _ (residuals : List ℤ) where
    abbrev pub run : Session → List ℤ → List ℕ → List ℤ → List ℕ → End
    run s plane contexts cells m = run_from 0 s plane contexts cells m residuals

    -- from opening on
    abbrev pub opened : ℕ → WeightedHeader → Bool → ℕ → ℤ → ℤ → List ℤ → List ℕ → List ℤ → List ℕ → End
    opened width h weights mask number stream plane contexts cells m =
        let o = opens width h weights mask number stream cells m in
        stepped o.says
        (λ number. ended number plane contexts o.cells o.memory)
        (λ s. run s plane contexts o.cells o.memory)

    -- 8 where header or contexts have too few words
    abbrev pub channel : ℕ → List ℕ → Bool → ℕ → ℤ → ℤ → List ℤ → List ℕ → List ℤ → List ℕ → End
    channel width header weights mask number stream plane contexts cells m =
        if (leb 11 (length header) && leb (length residuals) (length contexts))
        (opened width (header_of header) weights mask number stream plane contexts cells m)
        (ended 8 plane contexts cells m)

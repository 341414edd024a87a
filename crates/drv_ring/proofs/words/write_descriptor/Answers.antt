use Rattle.std.proofs.Common.{◌≡◌, ℕ, Bool, false, if◌then◌else◌, ap, ◌∙◌}
use Rattle.cq_chain.specs.Descriptors.{size_of}
use Rattle.piece_data.proofs.Kept.{range-same_space}
use Rattle.drv_ring.proofs.Changed.{reads-written}
use Rattle.drv_ring.proofs.words.write_descriptor.Goals as goal

none-high : {wide : Bool} → wide ≡ false → (high : ℕ) → (if wide then high else 0) ≡ 0
none-high e high = ap (λ b. if b then high else 0) e

pub returns-clause-written : goal.returns-clause-written
returns-clause-written c =
    let words = c.write_xfer-low in
    let written = c.write_words in
    reads-written c.args.wide written.new.mem c.args.at words.result.0 words.result.1 c.args.xfer.now
    (range-same_space c.args.mem.now written.new.mem c.args.at (size_of c.args.wide) written.ensures.within.space c.requires.inside)
    written.ensures.low written.ensures.high (λ e. words.ensures.high ∙ none-high e _) (words.ensures.read_again c.requires.fits)

-- What std prints of a number with zeros in front is `hexadecimal`: there is no sign and no prefix, and nothing behind the digits.
use Rattle.std.proofs.Common.{◌≡◌, ℕ, ◌-◌, ◌^◌, List, ◌++◌, [], length, false, Some, OnOk, ap, ◌∙◌, subst, replicate}
use Rattle.std.proofs.lemmas.List.{append-nil}
use Rattle.std.proofs.Math.Nat.{sub-zero}
use Rattle.std.specs.Option.{IfSome, option_map}
use Rattle.std.specs.Fmt.{digits, styled_digits_output, format_spec, padded_integral, char_count}
use Rattle.std.specs.Io.KnownBytes.{Appends}
use Rattle.streams.specs.Numbers.{hexadecimal}
use Rattle.streams.proofs.output.write_hex.Goals as goal

-- zeros in front, up to a width
padded-zeros : (width : ℕ) (text : List ℕ) → padded_integral (format_spec 32 0 4 width (2 ^ 64 - 1)) false [] text ≡ replicate (width - length text) 48 ++ text
unfolding padded_integral char_count
padded-zeros width text =
    ap (λ l. replicate (width - length text - 0 - 0) 48 ++ l) (append-nil text)
    ∙ ap (λ k. replicate k 48 ++ text) (sub-zero _ ∙ sub-zero _)

pub returns : goal.returns
returns g c =
    let printed : styled_digits_output c.in_radix.result c.laid_out.result ≡ Some (hexadecimal c.args.width c.args.n) =
    ap (λ s. styled_digits_output c.in_radix.result s) c.laid_out.ensures
    ∙ ap (option_map (padded_integral (format_spec 32 0 4 c.args.width (2 ^ 64 - 1)) false [])) c.in_radix.ensures
    ∙ ap (λ l. Some l) (padded-zeros c.args.width (digits 16 false c.args.n)) in
    subst (λ o. OnOk c.write.result (IfSome o (Appends (g.W.Write.contents c.args.writer.now) (g.W.Write.contents c.write.new.self)))) printed c.write.ensures.bytes

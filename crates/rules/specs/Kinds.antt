-- The kinds of the definitions as the code has them: a code in the store read, and their codes.
use Rattle.std.specs.Prelude.{ℕ, zero, suc}
use Rattle.rules.specs.declared.Kind.{Kind}
use Rattle.rules.specs.declared.Kind.TheVariants.{Empty, Pcdata, Complex}

-- every code above 1 is read as that of COMPLEX
abbrev pub kind_by : ℕ → Kind
kind_by zero = Empty
kind_by (suc zero) = Pcdata
kind_by (suc (suc k)) = Complex

abbrev pub kind_number : Kind → ℕ
kind_number Empty = 0
kind_number Pcdata = 1
kind_number Complex = 2

-- What a store answers where a token stays.
use Rattle.std.specs.Prelude.{Option, Some, None}
use Rattle.lc_model.specs.declared.refusal.Refusal.{Refusal}
use Rattle.lc_model.specs.declared.refusal.Refusal.TheVariants.{NotHere, Held, Writing, Unflushed, Behind}
use Rattle.lc_token.specs.declared.fault.TokenFault.{TokenFault}
use Rattle.lc_token.specs.declared.fault.TokenFault.TheVariants.{NotHere as IsNotHere, Held as IsHeld, Writing as IsWriting, Unflushed as IsUnflushed, Behind as IsBehind, NoMemory}

-- the refusal of the same name; there is none for want of memory
abbrev pub token_refusal : TokenFault → Option Refusal
token_refusal (IsNotHere segment) = Some (NotHere segment)
token_refusal IsHeld = Some Held
token_refusal IsWriting = Some Writing
token_refusal IsUnflushed = Some Unflushed
token_refusal (IsBehind applied seq) = Some (Behind applied seq)
token_refusal NoMemory = None

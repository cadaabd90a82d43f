mod OptionNumbers
mod OptionRows
mod FaultlessWords
mod Asking

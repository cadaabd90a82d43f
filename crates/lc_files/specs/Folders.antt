-- A folder of a store, as contracts see it.
use Rattle.lc_files.specs.declared.store_folder.StoreFolder.{StoreFolder}

-- its runtime
abbrev pub folder_runtime : {R P : Type 0} → StoreFolder R P → R
folder_runtime folder = folder.rt

-- its path
abbrev pub folder_path : {R P : Type 0} → StoreFolder R P → P
folder_path folder = folder.path

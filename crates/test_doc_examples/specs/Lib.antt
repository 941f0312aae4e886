pub mod Even
